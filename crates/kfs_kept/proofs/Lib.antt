-- Lemmas on what files stand for.
mod CallsLemmas
mod RestoredLemmas
mod Meant
mod Beside
mod Stays
mod OneState
mod Unanswered
mod Due
mod UnderWay
mod SameClients
mod KnownClients
mod Admitted

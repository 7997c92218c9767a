use Rattle.std.proofs.Common.{arith, inl, refl}
use Rattle.kfs_serve.proofs.words.asked_of.Goals as goal

pub returns-in_ok-number_in-in-open : goal.returns-in_ok-number_in-in-open
returns-in_ok-number_in-in-open c = record {
  admitted = inl (omega (arith, c.in-open.len_at_least, c.in-open.len_below), refl);
  name = c.in-open.is-open;
  folder = refl;
  limit = c.in_ok-number_in-in-open.ensures;
}

pub returns-in_ok-sizes-in-new : goal.returns-in_ok-sizes-in-new
returns-in_ok-sizes-in-new c = record {
  none_admitted = refl;
  judges = inl (omega (arith, c.in-new.len_at_least, c.in-new.len_below), refl);
  name = c.in-new.is-new;
  folder = refl;
  limit = c.in_ok-limit-in-new.ensures;
  clients = refl;
  sizes = c.in_ok-sizes-in-new.ensures;
}

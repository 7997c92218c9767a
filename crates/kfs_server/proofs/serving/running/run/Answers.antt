use Rattle.kfs_server.proofs.serving.running.run.Goals as goal

pub returns-in-Ok : goal.returns-in-Ok
returns-in-Ok g c =
    let (input, text, consumed, appended, session) = c.in-Ok.ensures.session in
    (input, text, consumed, appended, (c.serve.new.kept, session))

pub returns : goal.returns
returns g c =
    let (input, text, consumed, appended, session) = c.in-Err.ensures.session in
    (input, text, consumed, appended, (c.serve.new.kept, session))

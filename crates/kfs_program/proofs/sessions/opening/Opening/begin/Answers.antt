use Rattle.std.proofs.Common.{rules, ◌≡◌, ◌≢◌, ◌⊎◌, ⊎_elim, ◌∙◌, ◌++◌, [], Some, ap, subst, sym}
use Rattle.std.specs.Prelude.{codes}
use Rattle.kfs_desk.specs.Opening.{begin_fault}
use Rattle.kfs_desk.specs.declared.history.answers.BeginFault.TheVariants.{OutOfMemory}
use Rattle.kfs_program_text.specs.Parts.{line_of}
use Rattle.kfs_program.specs.Report.{begin_text}
use Rattle.kfs_program.specs.Engine.Session.{Before, begun_with, begun_over}
use Rattle.kfs_program.proofs.sessions.opening.Opening.begin.Goals as goal

pub returns-clause-ok : goal.returns-clause-ok
returns-clause-ok g c =
    let back = c.in-Err.back in
    let clients = c.args.self.now.clients.items in
    let line = line_of (codes "begin " ++ begin_text back.why) in
    let image : c.args.self.now.image ≡ Some back.image = search rules in
    let same : c.replace-clients.result.items ≡ clients = search rules in
    let why : (back.why ≡ OutOfMemory) ⊎ (begin_fault clients ≡ Some back.why) = subst (λ cs. (back.why ≡ OutOfMemory) ⊎ (begin_fault cs ≡ Some back.why)) same c.in-Err.ensures.why in
    let other : back.why ≢ OutOfMemory = search rules in
    let found : begin_fault clients ≡ Some back.why = ⊎_elim (λ memory. absurd (other memory)) (λ named. named) why in
    let cleared : c.replace-clients.new.dest.items ≡ [] = search rules in
    let added : c.begin_line.new.out.items ≡ c.args.reply.now.items ++ line = search rules in (
      line,
      added,
      ap (λ o. begun_over o clients c.args.limit) image
          ∙ ap (begun_with back.image clients c.args.limit) found
          ∙ ap (λ kept. (line, Before (record { image = Some back.image; clients = kept }))) (sym cleared),
    )

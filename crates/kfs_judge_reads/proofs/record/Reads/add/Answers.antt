-- A read that wasn't kept goes last.
use Rattle.std.proofs.Common.{◌≡◌, Option, None, Some, sym, subst, ap, ◌∙◌, ◌++◌, ◌∷◌, []}
use Rattle.std.specs.Prelude.{IfSome, is_some, true}
use Rattle.std.specs.Map.{lookup}
use Rattle.indexmap.proofs.CallerLemmas.{insert_entry-new}
use Rattle.kfs_judge_reads.specs.Kept.{ReadsShown}
use Rattle.kfs_judge_reads.specs.SameReads.{same_read}
use Rattle.kfs_judge_reads.proofs.record.Reads.add.Goals.{in-Some+in_ok-record, in_default}
use Rattle.kfs_judge_reads.proofs.record.Reads.add.Goals as goal

at_none : {M : Type 0} (P : M → Type 0) (kept : Option M) → kept ≡ None → IfSome kept P
at_none P None is = tt
at_none P (Some m) is = cc

at_some : {M : Type 0} (P : M → Type 0) (kept : Option M) (m : M) → kept ≡ Some m → IfSome kept P → P m
at_some P kept m is holds = subst (λ o. IfSome o P) is holds

pub invariant_of-self-2 : goal.invariant_of-self-2
invariant_of-self-2 g c = elim c.match-self.branch [
  | in-Some+in_ok-record w ↦
      let map = w.in-Some.map in
      let read = c.args.read in
      let shown : map.entries ≡ c.self.inside.seen.items = at_some (λ m. m.entries ≡ c.self.inside.seen.items) c.self.inside.kept map w.in-Some.is c.self.invariant in
      let keeps : c.args.self.now.keeps ≡ true = ap (λ (r : ReadsShown). r.keeps) (sym c.self.view_is) ∙ ap is_some w.in-Some.is in
      let entries : c.args.self.now.entries ≡ map.entries = ap (λ (r : ReadsShown). r.entries) (sym c.self.view_is) ∙ sym shown in
      let none : lookup (same_read read) map.entries ≡ None = subst (λ es. lookup (same_read read) es ≡ None) entries (c.requires keeps) in
      let last = w.in_ok-record.ensures.ok ∙ insert_entry-new same_read map read c.args.answer none in
      subst (λ inside. IfSome inside.kept (λ m. m.entries ≡ c.and-seen.result.items)) (sym w.self-inside-is)
      (last ∙ ap (λ es. es ++ (read, c.args.answer) ∷ []) shown ∙ ap (λ seen. c.self.inside.seen.items ++ seen ∷ []) (sym c.of.ensures) ∙ sym c.and-seen.ensures)
  | in_default w ↦ at_none (λ m. m.entries ≡ c.and-seen.result.items) c.match-self.self-inside.kept (ap (λ inside. inside.kept) w.self-inside-is ∙ w.in_default.is)
]

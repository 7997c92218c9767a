use Rattle.std.proofs.Common.{◌≡◌, ◌∷◌, ◌++◌, [], ◌∙◌, rules, sym, ap, subst}
use Rattle.std.proofs.lemmas.List.{nil_from_length}
use Rattle.std.specs.Prelude.{OnOk}
use Rattle.kfs_maps.specs.Chunks.Edits.{entered_all}
use Rattle.kfs_maps.specs.Chunks.Joined.{joined, IsSized, AreSized}
use Rattle.kfs_maps.proofs.ChunksLemmas.Recut.{joined-push, each-push}
use Rattle.kfs_maps.proofs.chunks.entries.EntriesRecut.push_edited.Goals as goal

pub returns-then-is_empty-clause-joined : goal.returns-then-is_empty-clause-joined
returns-then-is_empty-clause-joined g c =
    let chunk = c.in_ok-clone.field-0 in
    let items : c.push.new.self.items ≡ c.args.new.now.items ++ chunk ∷ [] = c.in_ok-push.ensures.items in
    let value : chunk.value ≡ c.args.chunk.now.value = search rules in
    let none : c.args.edits.now ≡ [] = nil_from_length c.args.edits.now (search rules) in
    ap joined items
    ∙ joined-push c.args.new.now.items chunk
    ∙ ap (λ held. joined c.args.new.now.items ++ held.pairs) value
    ∙ ap (λ edits. joined c.args.new.now.items ++ entered_all g.K.Ord.cmp c.args.chunk.now.value.pairs edits) (sym none)

pub returns-then-is_empty-clause-fit : goal.returns-then-is_empty-clause-fit
returns-then-is_empty-clause-fit g c =
    let chunk = c.in_ok-clone.field-0 in
    let items : c.push.new.self.items ≡ c.args.new.now.items ++ chunk ∷ [] = c.in_ok-push.ensures.items in
    let value : chunk.value ≡ c.args.chunk.now.value = search rules in
    subst AreSized (sym items) (each-push IsSized c.args.new.now.items chunk c.requires.fit (subst (λ held. IsSized held.pairs) (sym value) c.requires.fits))

pub returns-clause-joined : goal.returns-clause-joined
returns-clause-joined g c =
    let merged : c.in_ok-merged.field-0.pairs ≡ entered_all g.K.Ord.cmp c.args.chunk.now.value.pairs c.args.edits.now = c.in_ok-merged.ensures ∙ ap (λ held. entered_all g.K.Ord.cmp held.pairs c.args.edits.now) c.deref.ensures in
    subst (λ es. OnOk c.append.result (joined c.append.new.new.items ≡ joined c.args.new.now.items ++ es)) merged c.append.ensures.joined

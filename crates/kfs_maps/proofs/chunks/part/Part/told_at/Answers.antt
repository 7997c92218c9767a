use Rattle.std.proofs.Common.{rules, ◌≡◌, ◌<◌, length, get_or, subst, Some, None}
use Rattle.std.specs.Prelude.{IfSome}
use Rattle.std.specs.Option.{option_copied}
use Rattle.kfs_maps.specs.Chunks.Buffer.{Buffer}
use Rattle.kfs_maps.specs.Chunks.Joined.{Tells}
use Rattle.kfs_maps.proofs.ChunksLemmas.FirstHere.{tells_joined}
use Rattle.kfs_maps.proofs.chunks.part.Part.told_at.Goals as goal

pub returns : goal.returns
returns g c =
    let cmp = g.K.Ord.cmp in
    let q = (g.Q.Sought.key c.args.key) in
    let cs = c.self.inside.chunks.items in
    let chunk = c.in_ok-chunk.chunk.now in
    let within : c.args.near.chunk < length cs = search rules in
    let here : chunk ≡ get_or cs c.args.near.chunk chunk = search rules in
    elim c.told_at.result as (λ r. IfSome r (λ told. Tells cmp q c.deref-2.result.now.pairs (option_copied told)) → IfSome r (λ told. Tells cmp q c.args.self.now.pairs (option_copied told))) [
      | None ↦ λ none. none
      | Some told ↦ λ tells.
          let own : Tells cmp q (get_or cs c.args.near.chunk chunk).value.pairs (option_copied told) =
          subst (λ one. Tells cmp q one.value.pairs (option_copied told)) here (subst (λ (x : Buffer _ _). Tells cmp q x.pairs (option_copied told)) c.deref-2.ensures tells) in
          subst (λ (s : Buffer _ _). Tells cmp q s.pairs (option_copied told)) c.self.view_is (tells_joined cmp q cs c.args.near.chunk chunk (option_copied told) within own)
    ] c.told_at.ensures

-- Equal keys are equal reads.
use Rattle.std.specs.Prelude.{◌≡◌, ℕ, true, nat_eq, ◌==◌, List}
use Rattle.std.proofs.Common.{ap, sym}
use mathlib.Core.Bool.{true≢false}
use Rattle.std.specs.Cmp.{first_so, second_so}
use Rattle.std.specs.Cmp.Lexicographic.{same_text, pointwise}
use Rattle.std.proofs.lemmas.Bool.{eqb-true}
use Rattle.kfs_image_nodes.specs.declared.cell.Cell.{Cell as CodeCell}
use Rattle.kfs_image_nodes.specs.declared.cell.Cell.TheVariants as cells
use Rattle.kfs_judge_reads.specs.declared.reads.Read.{Read}
use Rattle.kfs_judge_reads.specs.declared.reads.Read.TheVariants as reads
use Rattle.kfs_judge_reads.specs.SameReads.{fed_read, same_read}

pub same_read_exact : (x y : Read) → same_read x y ≡ true → x ≡ y
same_read_exact (reads.Lease n) (reads.Lease k) e = ap reads.Lease (eqb-true n k e)
same_read_exact (reads.Lease n) (reads.Look k) e = cc
same_read_exact (reads.Look k) (reads.Lease n) e = cc
same_read_exact (reads.Look k) (reads.Look l) e = ap reads.Look (same_look k l e)
  where
    same_name : (d d' : ℕ) (m m' : List ℕ) → same_read (reads.Look (cells.Name d m)) (reads.Look (cells.Name d' m')) ≡ true → cells.Name d m ≡ cells.Name d' m'
    same_name d d' m m' e' =
        let directory = eqb-true d d' (first_so (d == d') (pointwise nat_eq m m') e') in
        let name = same_text m m' (sym (second_so (d == d') (pointwise nat_eq m m') e')) in
        λ i. cells.Name (directory i) (name i)

    same_look : (k l : CodeCell) → same_read (reads.Look k) (reads.Look l) ≡ true → k ≡ l
    same_look (cells.Header n) (cells.Header n') e' = ap cells.Header (eqb-true n n' e')
    same_look (cells.Count n) (cells.Count n') e' = ap cells.Count (eqb-true n n' e')
    same_look (cells.Parent n) (cells.Parent n') e' = ap cells.Parent (eqb-true n n' e')
    same_look (cells.Name d m) (cells.Name d' m') e' = same_name d d' m m' e'
    same_look (cells.Header n) (cells.Name d m) e' = absurd (true≢false (sym e'))
    same_look (cells.Header n) (cells.Count d) e' = absurd (true≢false (sym e'))
    same_look (cells.Header n) (cells.Parent d) e' = absurd (true≢false (sym e'))
    same_look (cells.Name d m) (cells.Header n) e' = absurd (true≢false (sym e'))
    same_look (cells.Name d m) (cells.Count n) e' = absurd (true≢false (sym e'))
    same_look (cells.Name d m) (cells.Parent n) e' = absurd (true≢false (sym e'))
    same_look (cells.Count n) (cells.Header d) e' = absurd (true≢false (sym e'))
    same_look (cells.Count n) (cells.Name d m) e' = absurd (true≢false (sym e'))
    same_look (cells.Count n) (cells.Parent d) e' = absurd (true≢false (sym e'))
    same_look (cells.Parent n) (cells.Header d) e' = absurd (true≢false (sym e'))
    same_look (cells.Parent n) (cells.Name d m) e' = absurd (true≢false (sym e'))
    same_look (cells.Parent n) (cells.Count d) e' = absurd (true≢false (sym e'))

-- equal reads are hashed alike
pub fed_alike : (x y : Read) → same_read x y ≡ true → fed_read x ≡ fed_read y
fed_alike x y same = ap fed_read (same_read_exact x y same)

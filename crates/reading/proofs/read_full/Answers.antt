use Rattle.std.proofs.Common.{◌≡◌, ◌∙◌, ℕ, ◌+◌, ◌-◌, ◌≤◌, List, ◌++◌, rules, length, take, sym, ap, subst, le_refl, drop_at, length-take-le}
use Rattle.std.proofs.lemmas.Slice.{take-put_mid_below}
use Rattle.std.specs.Io.KnownBytes.{Consumes}
use Rattle.std.proofs.KnownBytes.{Consumes-trans}
use borrow.Rule.Slice.PartMut.{put_mid, post_of}
use lib.Seq.{take-add, take-append-le}
use Rattle.reading.proofs.read_full.Goals as goal

-- What stands before the end of a part is what stands before the part, and then the part.
part_joined : (from count : ℕ) (old part : List ℕ) → from ≤ length old → count ≤ length part
    → take from old ++ take count part ≡ take (from + count) (put_mid from (length old - from) old part)
part_joined from count old part within fits =
    let whole = put_mid from (length old - from) old part in
    let after = post_of from (length old - from) old in
    let front : take from whole ≡ take from old = take-put_mid_below _ _ _ _ _ (le_refl _) within in
    let rest = ap (take count) (drop_at (take from old) (part ++ after) from (length-take-le from old within)) ∙ take-append-le count part after fits in
    ap (λ (l : List ℕ). l ++ take count part) (sym front) ∙ ap (λ (l : List ℕ). take from whole ++ l) (sym rest) ∙ sym (take-add from count whole)

pub loop-done-preserved : goal.loop-done-preserved
loop-done-preserved g c =
    let done = c.loop-done.invariant in
    let count = c.read_some-count in (
      search rules,
      search rules,
      subst (Consumes _ _) (part_joined _ _ _ _ done.1 count.ensures.in_bounds.0) (Consumes-trans _ _ _ _ _ done.2 count.ensures.bytes),
    )

-- The first ring that was found to own the chainage is the lowest.
use Rattle.std.proofs.Common.{◌≡◌, ◌<◌, sym, ◌∙◌}
use native.Mathlib.Omega.{arith}
use Rattle.laws.proofs.Lowest.{lowest_at}
use Rattle.ring_desk.specs.Rings.{ring_count}
use Rattle.ring_desk.specs.Owner.{owns}
use Rattle.ring_desk.proofs.Pairs.{pair_owns}
use Rattle.ring_desk.proofs.first_owner.Goals as goal

pub returns-then-owns_between : goal.returns-then-owns_between
returns-then-owns_between c =
    let l = c.loop-place in
    let listed : l.place < ring_count c.args.rings.now = omega (arith, c.loop-place-test.true, c.as_chunks.ensures.front_len) in
    let tested : c.owns_between.result ≡ owns c.args.rings.now c.args.chainage l.place =
    c.owns_between.ensures ∙ rw (l.invariant.0, c.from.ensures, c.as_chunks.ensures.front) (pair_owns c.args.rings.now c.args.chainage l.place listed) in
    let lowest = lowest_at (ring_count c.args.rings.now) (owns c.args.rings.now c.args.chainage) l.place listed (sym tested ∙ c.if-owns_between.true) l.invariant.1.1 in
    (omega (arith, lowest, listed), sym lowest)

-- The input is fed byte by byte.
use mathlib.Core.Path.{◌≡◌, refl, ap, subst, sym, ◌∙◌}
use mathlib.Core.Bool.{Bool, true}
use mathlib.Core.List.{List, [], ◌∷◌, ◌++◌, append_assoc}
use Prim.Native.Nat.{ℕ, ◌+◌, ◌<◌}
use native.Mathlib.Numerals.{add-one}
use borrow.Author.Tests.{eq-eqb, ne_eqb}
use lib.ListN.{length, take, get_or}
use lib.Seq.{take-suc}
use Rattle.bench_session.specs.declared.session.Session.{Session}
use Rattle.bench_lines.specs.declared.line.Line.{Line}
use Rattle.bench_lines.specs.Line.{newline, text_size}
use Rattle.bench_session.specs.Session.{Fed, Consumed, Follows, Yields, Continues, Reached, new_session, keep_byte, end_line, feed_byte, feed, and_then, joined, most_reads}

-- Byte 10 ends a line; any other byte is kept.
pub feed_newline : (file : List ℕ) (fed : Fed) (b : ℕ) → b ≡ newline → end_line file fed ≡ feed_byte file fed b
unfolding feed_byte
feed_newline file fed b e = simp (eq-eqb b newline e)

pub feed_other : (file : List ℕ) (fed : Fed) (b : ℕ) → (b ≡ newline → ⊥) → keep_byte fed b ≡ feed_byte file fed b
unfolding feed_byte
feed_other file fed b h = simp (ne_eqb b newline h)

-- The texts of three parts, in their order.
and_then_assoc : (a b c : Consumed) → and_then a (and_then b c) ≡ and_then (and_then a b) c
and_then_assoc a b c = ap (λ (l : List ℕ). record { fed = c.fed; text = l }) (sym (append_assoc a.text b.text c.text))

-- The input may be cut anywhere: its parts leave and print what the whole does.
pub feed_parts : (file : List ℕ) (fed : Fed) (xs ys : List ℕ) → feed file fed (xs ++ ys) ≡ and_then (feed file fed xs) (feed file (feed file fed xs).fed ys)
unfolding feed
feed_parts file fed [] ys = refl
feed_parts file fed (x ∷ xs) ys =
    let first = feed_byte file fed x in
    ap (and_then first) (feed_parts file first.fed xs ys) ∙ and_then_assoc first (feed file first.fed xs) (feed file (feed file first.fed xs).fed ys)

-- One byte leaves what it leaves alone.
feed_one : (file : List ℕ) (fed : Fed) (b : ℕ) → (feed file fed (b ∷ [])).fed ≡ (feed_byte file fed b).fed
unfolding feed
feed_one file fed b = refl

-- One byte more.
pub feed_more : (file : List ℕ) (fed : Fed) (bytes : List ℕ) (i : ℕ) → i < length bytes
    → (feed_byte file (feed file fed (take i bytes)).fed (get_or bytes i 0)).fed ≡ (feed file fed (take (i + 1) bytes)).fed
feed_more file fed bytes i h =
    sym
    (rw
    (add-one, take-suc bytes i 0 h)
    (ap (λ (c : Consumed). c.fed) (feed_parts file fed (take i bytes) (get_or bytes i 0 ∷ [])) ∙ feed_one file (feed file fed (take i bytes)).fed (get_or bytes i 0)))

pub feed_none : (file : List ℕ) (fed : Fed) → fed ≡ (feed file fed []).fed
unfolding feed
feed_none file fed = refl

-- The same under another name.
pub follows_as : (session : Session) (fed other : Fed) → fed ≡ other → Follows fed session → Follows other session
follows_as session fed other e = subst (λ (f : Fed). Follows f session) e

pub yields_as : (session : Session) (text : Line text_size) (out other : Consumed) → out ≡ other → Yields session text out → Yields session text other
yields_as session text out other e = subst (λ (o : Consumed). Yields session text o) e

-- What a session has reached before the first read, and after one read more.
pub reached_none : (file : List ℕ) (session : Session) → Follows new_session session → Reached file session true 0
unfolding joined
reached_none file session f = ([], (follows_as session new_session (feed file new_session []).fed (feed_none file new_session) f, (refl, refl)))

pub reached_more : (file : List ℕ) (before after : Session) (had more : Bool) (reads : ℕ) → Reached file before had reads → Continues file before after more → Reached file after more (reads + 1)
unfolding joined
reached_more file before after had more reads r c =
    let earlier = joined r.0 in
    let whole = ap (λ (o : Consumed). o.fed) (sym (feed_parts file new_session earlier c.0)) in (
      c.0 ∷ r.0,
      (
        follows_as after (feed file (feed file new_session earlier).fed c.0).fed (feed file new_session (earlier ++ c.0)).fed whole (c.1.0 (feed file new_session earlier).fed r.1.0),
        (c.1.1, ap (λ (k : ℕ). k + 1) r.1.1.1 ∙ add-one (length r.0)),
      ),
    )

-- The greatest number of reads.
pub most_reads_lem : most_reads ≡ 18446744073709551615
unfolding most_reads
most_reads_lem = refl

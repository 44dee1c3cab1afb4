-- What a command leaves in its window, read back byte by byte.
use mathlib.Core.Path.{◌≡◌, refl, sym, ap, ◌∙◌}
use mathlib.Core.Bool.{Bool, true, false, cond}
use mathlib.Core.List.{List}
use mathlib.Core.Logic.{◌↔◌, ◌≢◌}
use Prim.Native.Nat.{ℕ, ◌+◌, ◌*◌, ◌/◌, ◌%◌, ◌<◌, ◌≤◌}
use native.Mathlib.Omega.{arith}
use borrow.Author.Tests.{eqb-true, eq-eqb, ne_eqb}
use lib.ListN.{length, get_or, set, length-set}
use lib.Seq.{get_or-set_same, get_or-set_other, set-get_or}
use Rattle.refusal.specs.declared.Refusal.{Refusal}
use Rattle.refusal.specs.Number.{number_of}
use Rattle.window.specs.declared.Status.{Status}
use Rattle.window.specs.Window.{byte_at, with_byte, on, status_of, status_byte, interrupt_byte, status_at}
use Rattle.window.specs.Statement.{BitsNamed}
use Rattle.window.specs.Written.{refused_status, begun_status, ended_status, acknowledged_status, taken, refused_in, begun_in, ended_in, acknowledged_in}

-- ---- A status and its byte

-- Bit 0 of a byte by its test.
on_bit : (b : Bool) (byte : ℕ) → byte % 2 ≡ cond b 1 0 → on byte ≡ b
on_bit true byte e = eq-eqb (byte % 2) 1 e
on_bit false byte e = ne_eqb (byte % 2) 1 (λ z. omega (arith, e, z))

-- The test of a bit, and its number.
bit_named : (byte : ℕ) → (on byte ≡ true) ↔ (byte % 2 ≡ 1)
bit_named byte = (eqb-true (byte % 2) 1, eq-eqb (byte % 2) 1)

pub bits_named : (windows : List ℕ) (t : ℕ) → BitsNamed windows t
bits_named windows t = record {
  byte = λ k. refl;
  busy = bit_named (byte_at windows t 2);
  done = bit_named (byte_at windows t 2 / 2);
  refused = bit_named (byte_at windows t 2 / 4);
  moved = bit_named (byte_at windows t 2 / 8);
  interrupt = bit_named (byte_at windows t 5);
  mask = bit_named (byte_at windows t 6);
}

-- A bit by its weight, and as 0 or 1.
weight : (b : Bool) (k : ℕ) → cond b k 0 ≡ k * cond b 1 0
weight true k = omega arith
weight false k = omega arith

low : (b : Bool) → cond b 1 0 < 2
low true = omega arith
low false = omega arith

-- The parts of a number of four bits and a rest.
parts : (x y z w u : ℕ) → x < 2 → y < 2 → z < 2 → w < 2 → let v = x + 2 * y + 4 * z + 8 * w + 16 * u in
    (v % 2 ≡ x) × (v / 2 % 2 ≡ y) × (v / 4 % 2 ≡ z) × (v / 8 % 2 ≡ w) × (v / 16 ≡ u)
parts x y z w u a b c d = (omega (arith, a, b, c, d), omega (arith, a, b, c, d), omega (arith, a, b, c, d), omega (arith, a, b, c, d), omega (arith, a, b, c, d))

-- A status is read as it was written.
pub status_read : (s : Status) → status_of (status_byte s) ≡ s
status_read s =
    let v = cond s.busy 1 0 + 2 * cond s.done 1 0 + 4 * cond s.refused 1 0 + 8 * cond s.moved 1 0 + 16 * s.unnamed in
    let (b, d, r, m, u) = parts (cond s.busy 1 0) (cond s.done 1 0) (cond s.refused 1 0) (cond s.moved 1 0) s.unnamed (low s.busy) (low s.done) (low s.refused) (low s.moved) in
    rw (weight s.done 2, weight s.refused 4, weight s.moved 8)
    (λ k. record { busy = on_bit s.busy v b k; done = on_bit s.done (v / 2) d k; refused = on_bit s.refused (v / 4) r k; moved = on_bit s.moved (v / 8) m k; unnamed = u k })

-- Bit 0 of the interrupt byte is read as it was written, and the others stay.
pub interrupt_read : (waits : Bool) (byte : ℕ) → (on (interrupt_byte waits byte) ≡ waits) × (interrupt_byte waits byte / 2 ≡ byte / 2)
interrupt_read waits byte = (on_bit waits (interrupt_byte waits byte) (omega (arith, low waits)), omega (arith, low waits))

-- ---- Bytes 1 to 5 of a window

pub record Bytes : Type 0 where
  pub command : ℕ
  pub status : ℕ
  pub response : ℕ
  pub refusal : ℕ
  pub interrupt : ℕ

abbrev pub bytes_at : List ℕ → ℕ → Bytes
bytes_at windows t = record { command = byte_at windows t 1; status = byte_at windows t 2; response = byte_at windows t 3; refusal = byte_at windows t 4; interrupt = byte_at windows t 5 }

unfoldable pub with_bytes : List ℕ → ℕ → Bytes → List ℕ
with_bytes windows t b = with_byte (with_byte (with_byte (with_byte (with_byte windows t 1 b.command) t 2 b.status) t 3 b.response) t 4 b.refusal) t 5 b.interrupt

module _ (windows : List ℕ) (t : ℕ) where
  -- A byte that is written, and another one.
  same : (k byte : ℕ) → 8 * t + k < length windows → byte_at (with_byte windows t k byte) t k ≡ byte
  same k byte h = get_or-set_same windows (8 * t + k) byte 0 h

  other : (k byte j : ℕ) → j ≢ k → byte_at (with_byte windows t k byte) t j ≡ byte_at windows t j
  other k byte j h = get_or-set_other windows (8 * t + k) (8 * t + j) byte 0 (λ e. h (omega (arith, e)))

  held : (k byte : ℕ) → byte_at windows t k ≡ byte → with_byte windows t k byte ≡ windows
  held k byte e = ap (set windows (8 * t + k)) (sym e) ∙ set-get_or windows (8 * t + k) 0

module _ (windows : List ℕ) (t : ℕ) (b : Bytes) where
  abbrev w₁ : List ℕ
  w₁ = with_byte windows t 1 b.command

  abbrev w₂ : List ℕ
  w₂ = with_byte w₁ t 2 b.status

  abbrev w₃ : List ℕ
  w₃ = with_byte w₂ t 3 b.response

  abbrev w₄ : List ℕ
  w₄ = with_byte w₃ t 4 b.refusal

  pub bytes_long : length (with_bytes windows t b) ≡ length windows
  unfolding with_bytes
  bytes_long = length-set w₄ (8 * t + 5) b.interrupt ∙ length-set w₃ (8 * t + 4) b.refusal ∙ length-set w₂ (8 * t + 3) b.response ∙ length-set w₁ (8 * t + 2) b.status ∙ length-set windows (8 * t + 1) b.command

  -- Every other place is as it was.
  pub bytes_rest : (p : ℕ) → ((k : ℕ) → 1 ≤ k → k ≤ 5 → p ≢ 8 * t + k) → get_or (with_bytes windows t b) p 0 ≡ get_or windows p 0
  unfolding with_bytes
  bytes_rest p h =
      get_or-set_other w₄ (8 * t + 5) p b.interrupt 0 (h 5 (omega arith) (omega arith)) ∙ get_or-set_other w₃ (8 * t + 4) p b.refusal 0 (h 4 (omega arith) (omega arith))
      ∙ get_or-set_other w₂ (8 * t + 3) p b.response 0 (h 3 (omega arith) (omega arith)) ∙ get_or-set_other w₁ (8 * t + 2) p b.status 0 (h 2 (omega arith) (omega arith))
      ∙ get_or-set_other windows (8 * t + 1) p b.command 0 (h 1 (omega arith) (omega arith))

  -- The five are read as they were written.
  pub bytes_read : 8 * t + 7 < length windows → bytes_at (with_bytes windows t b) t ≡ b
  unfolding with_bytes
  bytes_read h =
      let l₁ : length w₁ ≡ length windows = length-set windows (8 * t + 1) b.command in
      let l₂ : length w₂ ≡ length windows = length-set w₁ (8 * t + 2) b.status ∙ l₁ in
      let l₃ : length w₃ ≡ length windows = length-set w₂ (8 * t + 3) b.response ∙ l₂ in
      let l₄ : length w₄ ≡ length windows = length-set w₃ (8 * t + 4) b.refusal ∙ l₃ in
      let e₅ = same w₄ t 5 b.interrupt (omega (arith, h, l₄)) in
      let e₄ = other w₄ t 5 b.interrupt 4 (λ e. omega (arith, e)) ∙ same w₃ t 4 b.refusal (omega (arith, h, l₃)) in
      let e₃ = other w₄ t 5 b.interrupt 3 (λ e. omega (arith, e)) ∙ other w₃ t 4 b.refusal 3 (λ e. omega (arith, e)) ∙ same w₂ t 3 b.response (omega (arith, h, l₂)) in
      let e₂ = other w₄ t 5 b.interrupt 2 (λ e. omega (arith, e)) ∙ other w₃ t 4 b.refusal 2 (λ e. omega (arith, e)) ∙ other w₂ t 3 b.response 2 (λ e. omega (arith, e)) ∙ same w₁ t 2 b.status (omega (arith, h, l₁)) in
      let e₁ = other w₄ t 5 b.interrupt 1 (λ e. omega (arith, e)) ∙ other w₃ t 4 b.refusal 1 (λ e. omega (arith, e)) ∙ other w₂ t 3 b.response 1 (λ e. omega (arith, e)) ∙ other w₁ t 2 b.status 1 (λ e. omega (arith, e)) ∙ same windows t 1 b.command (omega (arith, h)) in
      λ k. record { command = e₁ k; status = e₂ k; response = e₃ k; refusal = e₄ k; interrupt = e₅ k }

-- ---- What each command makes of the five bytes

abbrev pub taken_bytes : Bytes → Bytes
taken_bytes b = record { command = 0; status = b.status; response = b.response; refusal = b.refusal; interrupt = b.interrupt }

abbrev pub begun_bytes : Bytes → Bytes
begun_bytes b = record { command = 0; status = status_byte (begun_status (status_of b.status)); response = b.response; refusal = b.refusal; interrupt = b.interrupt }

abbrev pub refused_bytes : Refusal → Bytes → Bytes
refused_bytes c b = record { command = 0; status = status_byte (refused_status (status_of b.status)); response = b.response; refusal = number_of c; interrupt = interrupt_byte true b.interrupt }

abbrev pub ended_bytes : ℕ → Bool → Bytes → Bytes
ended_bytes r v b = record { command = 0; status = status_byte (ended_status v (status_of b.status)); response = r % 256; refusal = b.refusal; interrupt = interrupt_byte true b.interrupt }

abbrev pub acknowledged_bytes : Bytes → Bytes
acknowledged_bytes b = record { command = 0; status = status_byte (acknowledged_status (status_of b.status)); response = b.response; refusal = b.refusal; interrupt = interrupt_byte false b.interrupt }

module _ (windows : List ℕ) (t : ℕ) where
  -- Byte k after bytes 1 and 2 are written.
  later : (s k : ℕ) → k ≢ 1 → k ≢ 2 → byte_at (with_byte (taken windows t) t 2 s) t k ≡ byte_at windows t k
  later s k h g = other (taken windows t) t 2 s k g ∙ other windows t 1 _ k h

  pub taken_bytes_lem : taken windows t ≡ with_bytes windows t (taken_bytes (bytes_at windows t))
  unfolding with_bytes
  taken_bytes_lem =
      sym (rw (
        held (taken windows t) t 2 (byte_at windows t 2) (other windows t 1 _ 2 (λ e. omega (arith, e))),
        held (taken windows t) t 3 (byte_at windows t 3) (other windows t 1 _ 3 (λ e. omega (arith, e))),
        held (taken windows t) t 4 (byte_at windows t 4) (other windows t 1 _ 4 (λ e. omega (arith, e))),
        held (taken windows t) t 5 (byte_at windows t 5) (other windows t 1 _ 5 (λ e. omega (arith, e))),
      ) refl)

  module _ (s : ℕ) where
    abbrev marked : List ℕ
    marked = with_byte (taken windows t) t 2 s

    third : with_byte marked t 3 (byte_at windows t 3) ≡ marked
    third = held marked t 3 (byte_at windows t 3) (later s 3 (λ e. omega (arith, e)) (λ e. omega (arith, e)))

    fourth : with_byte marked t 4 (byte_at windows t 4) ≡ marked
    fourth = held marked t 4 (byte_at windows t 4) (later s 4 (λ e. omega (arith, e)) (λ e. omega (arith, e)))

    fifth : with_byte marked t 5 (byte_at windows t 5) ≡ marked
    fifth = held marked t 5 (byte_at windows t 5) (later s 5 (λ e. omega (arith, e)) (λ e. omega (arith, e)))

  pub begun_bytes_lem : begun_in windows t ≡ with_bytes windows t (begun_bytes (bytes_at windows t))
  unfolding with_bytes
  begun_bytes_lem = let s = status_byte (begun_status (status_at windows t)) in sym (rw (third s, fourth s, fifth s) refl)

  pub refused_bytes_lem : (c : Refusal) → refused_in windows t c ≡ with_bytes windows t (refused_bytes c (bytes_at windows t))
  unfolding with_bytes
  refused_bytes_lem c = let s = status_byte (refused_status (status_at windows t)) in sym (rw (third s) refl)

  pub acknowledged_bytes_lem : acknowledged_in windows t ≡ with_bytes windows t (acknowledged_bytes (bytes_at windows t))
  unfolding with_bytes
  acknowledged_bytes_lem = let s = status_byte (acknowledged_status (status_at windows t)) in sym (rw (third s, fourth s) refl)

  pub ended_bytes_lem : (r : ℕ) (v : Bool) → ended_in windows t r v ≡ with_bytes windows t (ended_bytes r v (bytes_at windows t))
  unfolding with_bytes
  ended_bytes_lem r v =
      let s = status_byte (ended_status v (status_at windows t)) in
      let e = other (marked s) t 3 (r % 256) 4 (λ z. omega (arith, z)) ∙ later s 4 (λ z. omega (arith, z)) (λ z. omega (arith, z)) in
      sym (rw (held (with_byte (marked s) t 3 (r % 256)) t 4 (byte_at windows t 4) e) refl)

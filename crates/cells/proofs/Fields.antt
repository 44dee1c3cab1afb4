-- Laws of fields, for every list of widths.
use mathlib.Core.Path.{◌≡◌, refl, ap, sym, ◌∙◌}
use mathlib.Core.List.{List, [], ◌∷◌}
use Prim.Native.Nat.{ℕ, ◌+◌, ◌*◌, ◌/◌, ◌%◌, ◌^◌, ◌<◌}
use native.Mathlib.Nat.{add-mul-mod_self_left, mod-eq_of_lt, mod-add-div, add-mul-div_left, div-eq_of_lt, div-lt_iff_lt-mul, mul_comm, div-div-eq-div-mul, div-one}
use native.Mathlib.Omega.{arith}
use lib.Arith.{digits_lt}
use lib.Pow.{pow_pos, pow-add}
use Rattle.cells.specs.Field.{pack, unpack, total, Fit}

-- The lowest field and the rest of a word that is made of both.
module _ (w v r : ℕ) (h : v < 2 ^ w) where
  lowest : (v + 2 ^ w * r) % 2 ^ w ≡ v
  lowest = add-mul-mod_self_left v (2 ^ w) r ∙ mod-eq_of_lt h

  rest : (v + 2 ^ w * r) / 2 ^ w ≡ r
  rest = add-mul-div_left v r (pow_pos w) ∙ omega (arith, div-eq_of_lt h)

-- Reading what was written gives the values back.
pub unpack_pack : (ws vs : List ℕ) → Fit ws vs → unpack ws (pack ws vs) ≡ vs
unfolding pack unpack
unpack_pack [] [] f = refl
unpack_pack [] (v ∷ vs) f = absurd f
unpack_pack (w ∷ ws) [] f = absurd f
unpack_pack (w ∷ ws) (v ∷ vs) f =
    let r : ℕ = pack ws vs in
    rw (lowest w v r f.0, rest w v r f.0) (ap (λ (us : List ℕ). v ∷ us) (unpack_pack ws vs f.1))

-- The lowest field is what is left by its place value, and the others are the fields of the rest.
pub unpack_low : (w : ℕ) (ws : List ℕ) (x : ℕ) → unpack (w ∷ ws) x ≡ x % 2 ^ w ∷ unpack ws (x / 2 ^ w)
unfolding unpack
unpack_low w ws x = refl

-- Writing what was read gives the word back, if it has no bits beside the fields.
pub pack_unpack : (ws : List ℕ) (x : ℕ) → x < 2 ^ total ws → pack ws (unpack ws x) ≡ x
unfolding pack unpack total
pack_unpack [] x h = omega arith
pack_unpack (w ∷ ws) x h =
    let l : x < 2 ^ total ws * 2 ^ w = rw (pow-add 2 w (total ws), mul_comm (2 ^ w) (2 ^ total ws)) at h in
    rw (pack_unpack ws (x / 2 ^ w) ((div-lt_iff_lt-mul (pow_pos w)).1 l)) (mod-add-div x (2 ^ w))

-- A written word has no bits beside the fields.
pub pack_below : (ws vs : List ℕ) → Fit ws vs → pack ws vs < 2 ^ total ws
unfolding pack total
pack_below [] [] f = omega arith
pack_below [] (v ∷ vs) f = absurd f
pack_below (w ∷ ws) [] f = absurd f
pack_below (w ∷ ws) (v ∷ vs) f =
    let d : pack ws vs * 2 ^ w + v < 2 ^ total ws * 2 ^ w = digits_lt (pack_below ws vs f.1) f.0 in
    omega (arith, pow-add 2 w (total ws), mul_comm (2 ^ w) (2 ^ total ws), mul_comm (2 ^ w) (pack ws vs))

-- Different values give different words.
pub pack_injective : (ws us vs : List ℕ) → Fit ws us → Fit ws vs → pack ws us ≡ pack ws vs → us ≡ vs
pack_injective ws us vs f g e = sym (unpack_pack ws us f) ∙ ap (unpack ws) e ∙ unpack_pack ws vs g

-- The values that fields hold in a word, read by place values: the first field starts at place p.
unfoldable pub unpack_at : ℕ → List ℕ → ℕ → List ℕ
unpack_at p [] x = []
unpack_at p (w ∷ ws) x = x / p % 2 ^ w ∷ unpack_at (p * 2 ^ w) ws x

-- Fields may be read one after the other or each by its place value.
unpack_from : (p : ℕ) (ws : List ℕ) (x : ℕ) → unpack ws (x / p) ≡ unpack_at p ws x
unfolding unpack unpack_at
unpack_from p [] x = refl
unpack_from p (w ∷ ws) x = rw (div-div-eq-div-mul x p (2 ^ w)) (ap (λ (vs : List ℕ). x / p % 2 ^ w ∷ vs) (unpack_from (p * 2 ^ w) ws x))

pub unpack_places : (ws : List ℕ) (x : ℕ) → unpack ws x ≡ unpack_at 1 ws x
unpack_places ws x = ap (unpack ws) (sym (div-one x)) ∙ unpack_from 1 ws x

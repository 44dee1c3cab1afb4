-- A decision as a truth value, and the decision of what two others make together.
use Rattle.std.specs.Prelude.{Bool, true, false}

abbrev pub decided : {P : Type 0} → Dec P → Bool
decided (yes _) = true
decided (no _) = false

-- R holds exactly if P and Q do.
abbrev pub both : {P Q R : Type 0} → (P → Q → R) → (R → P) → (R → Q) → Dec P → Dec Q → Dec R
both make first second (yes p) (yes q) = yes (make p q)
both make first second (yes p) (no n) = no (λ r. n (second r))
both make first second (no n) d = no (λ r. n (first r))

-- What is said of a result where it is Ok, or an Err, from what was said of it before.
use Rattle.std.specs.{Prelude.{Result, Ok, Err, IfOk, OnOk}, Result.is_err}
use Rattle.std.proofs.Common.{◌≡◌, false}

-- what follows from a fact that holds on Ok holds on Ok
pub on_ok-map : {T E : Type 0} (r : Result T E) (P Q : Type 0) → (P → Q) → OnOk r P → OnOk r Q
on_ok-map (Ok x) P Q f p = f p
on_ok-map (Err e) P Q f p = tt

-- what follows from a fact of the content holds of it
pub if_ok-map : {T E : Type 0} (r : Result T E) (P Q : T → Type 0) → ((x : T) → P x → Q x) → IfOk r P → IfOk r Q
if_ok-map (Ok x) P Q f p = f x p
if_ok-map (Err e) P Q f p = tt

-- what is said of a success holds, where there was one
pub if_ok-there : {T E : Type 0} (r : Result T E) (P : Type 0) → false ≡ is_err r → IfOk r (λ x. P) → P
if_ok-there (Ok x) P e p = p
if_ok-there (Err x) P e p = absurd cc

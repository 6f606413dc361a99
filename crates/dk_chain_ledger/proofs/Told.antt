-- What a list of answers has at a number.
use Rattle.std.proofs.Common.{ℕ, zero, suc, ◌≡◌, ◌+◌, ◌*◌, ◌/◌, ◌<◌, ◌≤◌, List, [], ◌∷◌, length, refl, sym, subst, ap, ◌∙◌, arith, Option, Some, None}
use Rattle.std.proofs.Math.Nat.{div-mul-le_self, mul-le-mul_right}
use Rattle.std.specs.Prelude.{All, drop, slice_get}
use Rattle.dk_config.specs.Configuration.{Configuration}
use Rattle.dk_trace.specs.declared.Entry.{Entry}
use Rattle.dk_chain_ledger.specs.declared.tables.Track.{Track}
use Rattle.dk_chain_ledger.specs.Tables.{told, IsTrackOf}

pub told_past : {X : Type 0} (xs : List (Option X)) (k : ℕ) → length xs ≤ k → told xs k ≡ None
told_past [] k le = refl
told_past (x ∷ xs) zero le = absurd (omega arith)
told_past (x ∷ xs) (suc k) le = told_past xs k (omega arith)

-- a window that is whole ends within the ledger
pub window_within : (n P k : ℕ) → k < n / P → k * P + P ≤ n
window_within n P k less =
    let step : suc k ≤ n / P = omega arith in
    let more = mul-le-mul_right P step in
    let all = div-mul-le_self n P in
    omega (arith, more, all)

-- all of a chain are there, and so is the one at a place
pub there_at : (n : ℕ) (chain : List ℕ) (k q : ℕ) → All (λ p. p < n) chain → slice_get chain k ≡ Some q → q < n
there_at n [] k q there at = absurd (cc)
there_at n (p ∷ chain) zero q there at =
    let same : p ≡ q = (let e : Some p ≡ Some q = at in cc) in
    let first : p < n = there 0 p (omega arith) in
    omega (arith, same, first)
there_at n (p ∷ chain) (suc k) q there at = there_at n chain k q (λ i d less. there (suc i) d (omega (arith, less))) at

drop_at : (rest : List ℕ) (k q : ℕ) → slice_get rest k ≡ Some q → drop k rest ≡ q ∷ drop (suc k) rest
drop_at [] k q at = absurd (cc)
drop_at (x ∷ rest) zero q at = let same : x ≡ q = (let e : Some x ≡ Some q = at in cc) in ap (λ y. y ∷ rest) same
drop_at (x ∷ rest) (suc k) q at = drop_at rest k q at

get_at : (rest : List ℕ) (k : ℕ) → k < length rest → (q : ℕ) × (slice_get rest k ≡ Some q)
get_at [] k less = absurd (omega arith)
get_at (x ∷ rest) zero less = (x, refl)
get_at (x ∷ rest) (suc k) less = get_at rest k (omega arith)

-- the place before
pub track_step : (c : Configuration) (es : List Entry) (first : ℕ) (rest : List ℕ) (k p : ℕ) (next track : Track) → k < length rest
    → ((q : ℕ) → slice_get (first ∷ rest) (suc k) ≡ Some q → IsTrackOf c es q (drop (suc k) rest) next) → slice_get (first ∷ rest) k ≡ Some p
    → ((q : ℕ) (more : List ℕ) → IsTrackOf c es q more next → IsTrackOf c es p (q ∷ more) track)
    → (q : ℕ) → slice_get (first ∷ rest) k ≡ Some q → IsTrackOf c es q (drop k rest) track
track_step c es first rest k p next track less then at before q at' =
    let found = get_at rest k less in
    let same : p ≡ q = (let e : Some p ≡ Some q = sym at ∙ at' in cc) in
    let more : drop k rest ≡ found.0 ∷ drop (suc k) rest = drop_at rest k found.0 found.1 in
    let whole : IsTrackOf c es p (found.0 ∷ drop (suc k) rest) track = before found.0 (drop (suc k) rest) (then found.0 found.1) in
    subst (λ p. IsTrackOf c es p (drop k rest) track) same (subst (λ xs. IsTrackOf c es p xs track) (sym more) whole)

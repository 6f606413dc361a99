-- The tenths with one window more, and with many in which nothing was used.
use Rattle.std.proofs.Common.{ℕ, suc, ◌≡◌, ◌≢◌, ◌+◌, ◌-◌, ◌<◌, ◌≤◌, ◌⊎◌, inl, inr, ◌∙◌, refl, sym, ap, arith, true, false, eqb, List, [], ◌∷◌, ◌++◌, length, get_or}
use Rattle.std.specs.Prelude.{min, if◌then◌else◌, count_by}
use Rattle.std.proofs.lemmas.Bool.{eq-eqb, ne_eqb, lt-ltb, le-ltb}
use Rattle.std.proofs.lemmas.List.{length_push}
use Rattle.std.proofs.lemmas.List.Sums.{count_by-le-length, sum_by-append, sum_by-cons}
use Rattle.std.proofs.Math.Nat.{zero-div}
use Rattle.dk_config.proofs.Counting.{at_index, set-level}
use Rattle.dk_window_report.specs.declared.row.Did.{Did}
use Rattle.show_ledger.specs.Tenths.{is_tenth, tenth, tenth_counts}
use Rattle.show_ledger.specs.Told.{counted, with_more}
use Rattle.show_ledger.proofs.Sums.{one_if}

-- ---- more windows of one tenth

count-last : (b k : ℕ) (ds : List Did) (d : Did) → count_by (is_tenth b k) (ds ++ d ∷ []) ≡ count_by (is_tenth b k) ds + one_if (is_tenth b k d)
count-last b k ds d =
    let f = λ (x : Did). one_if (is_tenth b k x) in
    let both = sum_by-append f ds (d ∷ []) in
    let last = sum_by-cons f d [] in
    omega (arith, both, last)

with-one : (b : ℕ) (ds : List Did) (d : Did) → length ds < 4294967295 → with_more (tenth b d.used) 1 (tenth_counts b ds) ≡ tenth_counts b (ds ++ d ∷ [])
with-one b ds d few =
    let k = tenth b d.used in
    let old = λ (j : ℕ). count_by (is_tenth b j) ds in
    let new = λ (j : ℕ). count_by (is_tenth b j) (ds ++ d ∷ []) in
    let at : get_or (tenth_counts b ds) k 0 ≡ old k = at_index old 11 k 0 (omega arith) in
    let most : old k ≤ length ds = count_by-le-length (is_tenth b k) ds in
    let own : one_if (is_tenth b k d) ≡ 1 = ap one_if (eq-eqb k k refl) in
    let last : new k ≡ old k + one_if (is_tenth b k d) = count-last b k ds d in
    let here : min (get_or (tenth_counts b ds) k 0 + 1) 4294967295 ≡ new k = omega (arith, at, most, own, last, few) in
    let others : (j : ℕ) → eqb j k ≡ false → old j ≡ new j =
    λ j off.
    let apart : k ≢ j = λ is. let both : true ≡ false = sym (eq-eqb j k (sym is)) ∙ off in absurd (cc) in
    let other : one_if (is_tenth b j d) ≡ 0 = ap one_if (ne_eqb k j apart) in
    let more : new j ≡ old j + one_if (is_tenth b j d) = count-last b j ds d in
    omega (arith, other, more) in
    set-level old new 11 k (min (get_or (tenth_counts b ds) k 0 + 1) 4294967295) (omega arith) here others

with-none : (b : ℕ) (ds : List Did) → length ds ≤ 4294967295 → with_more 0 0 (tenth_counts b ds) ≡ tenth_counts b ds
with-none b ds few =
    let old = λ (j : ℕ). count_by (is_tenth b j) ds in
    let at : get_or (tenth_counts b ds) 0 0 ≡ old 0 = at_index old 11 0 0 (omega arith) in
    let most : old 0 ≤ length ds = count_by-le-length (is_tenth b 0) ds in
    let here : min (get_or (tenth_counts b ds) 0 0 + 0) 4294967295 ≡ old 0 = omega (arith, at, most, few) in
    set-level old old 11 0 (min (get_or (tenth_counts b ds) 0 0 + 0) 4294967295) (omega arith) here (λ j off. refl)

with-next : (n : ℕ) (ts : List ℕ) → with_more 0 1 (with_more 0 n ts) ≡ with_more 0 (n + 1) ts
with-next n [] = refl
with-next n (t ∷ ts) =
    let same : min (min (t + n) 4294967295 + 1) 4294967295 ≡ min (t + (n + 1)) 4294967295 = omega arith in
    ap (λ v. v ∷ ts) same

-- ---- where the number of windows grew

pub counted-same : (b used w v : ℕ) (ts : List ℕ) → v ≡ w → counted b used w v ts ≡ ts
counted-same b used w v ts same =
    ap (λ t. if t then with_more 0 (v - w - 1) (with_more (tenth b used) 1 ts) else ts) (le-ltb w v (omega (arith, same)))

counted-more : (b used w v : ℕ) (ts : List ℕ) → w < v → counted b used w v ts ≡ with_more 0 (v - w - 1) (with_more (tenth b used) 1 ts)
counted-more b used w v ts less =
    ap (λ t. if t then with_more 0 (v - w - 1) (with_more (tenth b used) 1 ts) else ts) (lt-ltb w v less)

tenth-none : (b : ℕ) → tenth b 0 ≡ 0
tenth-none b = ap (λ n. min n 10) (zero-div b)

-- The used of one window more: those of the first, where none ended before, and else nothing.
abbrev pub IsUsed : ℕ → ℕ → ℕ → ℕ → Type 0
IsUsed used w v more = ((v ≡ w) × (more ≡ used)) ⊎ ((w < v) × (more ≡ 0))

first-more : (b used w v : ℕ) (ts : List ℕ) (ds : List Did) (d : Did) → length ds < 4294967295 → counted b used w v ts ≡ tenth_counts b ds
    → v ≡ w → d.used ≡ used → counted b used w (suc v) ts ≡ tenth_counts b (ds ++ d ∷ [])
first-more b used w v ts ds d few is same own =
    let new = ds ++ d ∷ [] in
    let less : w < suc v = omega (arith, same) in
    let none : suc v - w - 1 ≡ 0 = omega (arith, same) in
    let size : length new ≤ 4294967295 = (let more = length_push ds d in omega (arith, more, few)) in
    let start : ts ≡ tenth_counts b ds = sym (counted-same b used w v ts same) ∙ is in
    counted-more b used w (suc v) ts less
    ∙ ap (λ n. with_more 0 n (with_more (tenth b used) 1 ts)) none
    ∙ ap (λ n. with_more 0 0 (with_more (tenth b n) 1 ts)) (sym own)
    ∙ ap (λ xs. with_more 0 0 (with_more (tenth b d.used) 1 xs)) start
    ∙ ap (with_more 0 0) (with-one b ds d few)
    ∙ with-none b new size

later-more : (b used w v : ℕ) (ts : List ℕ) (ds : List Did) (d : Did) → length ds < 4294967295 → counted b used w v ts ≡ tenth_counts b ds
    → w < v → d.used ≡ 0 → counted b used w (suc v) ts ≡ tenth_counts b (ds ++ d ∷ [])
later-more b used w v ts ds d few is less own =
    let first = with_more (tenth b used) 1 ts in
    let one : suc v - w - 1 ≡ v - w - 1 + 1 = omega (arith, less) in
    let zeroth : 0 ≡ tenth b d.used = sym (ap (tenth b) own ∙ tenth-none b) in
    counted-more b used w (suc v) ts (omega (arith, less))
    ∙ ap (λ n. with_more 0 n first) one
    ∙ sym (with-next (v - w - 1) first)
    ∙ ap (with_more 0 1) (sym (counted-more b used w v ts less) ∙ is)
    ∙ ap (λ k. with_more k 1 (tenth_counts b ds)) zeroth
    ∙ with-one b ds d few

pub grown : (b used w v : ℕ) (ts : List ℕ) (ds : List Did) (d : Did) → length ds < 4294967295 → counted b used w v ts ≡ tenth_counts b ds
    → IsUsed used w v d.used → counted b used w (suc v) ts ≡ tenth_counts b (ds ++ d ∷ [])
grown b used w v ts ds d few is (inl (same, own)) = first-more b used w v ts ds d few is same own
grown b used w v ts ds d few is (inr (less, own)) = later-more b used w v ts ds d few is less own

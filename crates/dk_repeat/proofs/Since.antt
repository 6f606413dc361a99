-- Where a thread stands, counted from a tick at which all windows begin.
use Rattle.dk_repeat.proofs.Names.{ℕ, zero, suc, ◌≡◌, ◌+◌, ◌-◌, ◌*◌, ◌/◌, ◌%◌, ◌<◌, ◌≤◌, inl, inr, Bool, true, false, cond, not, ◌&&◌, leb, ltb, List, ◌++◌, length, take, Option, Some, None, refl, sym, ap, ◌∙◌, arith, length-append, option_or, option_map_or, then_some, cases_lt, cases_Bool, nat_tests, take-append-le, add-mod-mod, mod-lt, div-add-mod, mul-le-mul_left, Configuration, period, window_start, window_end, sum_every, ThreadId, Entry, window, stops, Thread, after_entry, is_void, is_ended_by, is_stopped_before, is_stopped_in, windows_left, sum_starts}

-- when a thread was stopped: never, before the tick, or so many ticks behind it
pub data Stop : Type 0 where
  never : Stop
  before : Stop
  since : ℕ → Stop

pub record Since : Type 0 where
  pub id : ThreadId
  pub level : ℕ
  pub quota : ℕ
  pub start : ℕ
  pub stop : Stop

abbrev pub stop_since : ℕ → Option ℕ → Stop
stop_since A None = never
stop_since A (Some s) = cond (ltb s A) before (since (s - A))

abbrev pub row_since : ℕ → Thread → Since
row_since A x = record { id = x.id; level = x.level; quota = x.quota; start = x.start - A; stop = stop_since A x.stop }

abbrev pub stopped_before : ℕ → Stop → Bool
stopped_before d never = false
stopped_before d before = true
stopped_before d (since e) = ltb e d

-- neither void nor ended
abbrev pub stands : Configuration → ℕ → ℕ → ℕ → Stop → Bool
stands c d level start never = true
stands c d level start before = false
stands c d level start (since e) = not (ltb e start) && not (leb (window_end c level e) d)

-- whether a child has its share of the window that starts at d
abbrev pub has_share : ℕ → ℕ → Stop → Bool
has_share d start never = leb start d
has_share d start before = false
has_share d start (since e) = (not (ltb e start) && leb start d) && not (ltb e d)

abbrev pub stopped_in : Configuration → ℕ → ℕ → Stop → Bool
stopped_in c d level never = false
stopped_in c d level before = false
stopped_in c d level (since e) = leb (window_start c level d) e && ltb e (window_end c level d)

ltb-behind : (A s d : ℕ) → A ≤ s → ltb s (d + A) ≡ ltb (s - A) d
ltb-behind A s d later =
    elim (cases_lt (s - A) d) [
      | inl low ↦
          let a : ltb (s - A) d ≡ true = grind (arith, nat_tests) in
          let b : ltb s (d + A) ≡ true = grind (arith, nat_tests) in
          b ∙ sym a
      | inr high ↦
          let a : ltb (s - A) d ≡ false = grind (arith, nat_tests) in
          let b : ltb s (d + A) ≡ false = grind (arith, nat_tests) in
          b ∙ sym a
    ]

ltb-both : (A s t : ℕ) → A ≤ s → ltb s t ≡ ltb (s - A) (t - A)
ltb-both A s t later =
    elim (cases_lt s t) [
      | inl low ↦
          let a : ltb s t ≡ true = grind (arith, nat_tests) in
          let b : ltb (s - A) (t - A) ≡ true = grind (arith, nat_tests) in
          a ∙ sym b
      | inr high ↦
          let a : ltb s t ≡ false = grind (arith, nat_tests) in
          let b : ltb (s - A) (t - A) ≡ false = grind (arith, nat_tests) in
          a ∙ sym b
    ]

pub leb-behind : (A s d : ℕ) → leb s (d + A) ≡ leb (s - A) d
leb-behind A s d =
    elim (cases_lt d (s - A)) [
      | inl low ↦
          let a : leb s (d + A) ≡ false = grind (arith, nat_tests) in
          let b : leb (s - A) d ≡ false = grind (arith, nat_tests) in
          a ∙ sym b
      | inr high ↦
          let a : leb s (d + A) ≡ true = grind (arith, nat_tests) in
          let b : leb (s - A) d ≡ true = grind (arith, nat_tests) in
          a ∙ sym b
    ]

leb-ahead : (A s d : ℕ) → A ≤ s → leb (d + A) s ≡ leb d (s - A)
leb-ahead A s d later =
    elim (cases_lt (s - A) d) [
      | inl low ↦
          let a : leb (d + A) s ≡ false = grind (arith, nat_tests) in
          let b : leb d (s - A) ≡ false = grind (arith, nat_tests) in
          a ∙ sym b
      | inr high ↦
          let a : leb (d + A) s ≡ true = grind (arith, nat_tests) in
          let b : leb d (s - A) ≡ true = grind (arith, nat_tests) in
          a ∙ sym b
    ]

mod-most : (n p : ℕ) → n % p ≤ n
mod-most n p = omega (arith, div-add-mod n p)

times-le : (p a b : ℕ) → a ≤ b → p * a ≤ p * b
times-le p a b le = mul-le-mul_left p le

times-next : (p a b : ℕ) → a < b → p * a + p ≤ p * b
times-next p a b less = let e : p * suc a ≡ p * a + p = grind arith in let le = times-le p (suc a) b (omega arith) in omega (arith, e, le)

-- a window that began before the start of another one ends by then
pub end-by : (c : Configuration) (i A s : ℕ) → 0 < period c i → A % period c i ≡ 0 → s < A → window_end c i s ≤ A
end-by c i A s positive zero_left early =
    let P = period c i in
    let whole = div-add-mod A P in
    let part = div-add-mod s P in
    let less : s % P < P = mod-lt s positive in
    elim (cases_lt (s / P) (A / P)) [
      | inl lower ↦
          let step : P * (s / P) + P ≤ P * (A / P) = times-next P (s / P) (A / P) lower in
          omega (arith, whole, part, zero_left, step)
      | inr not_lower ↦
          let over : P * (A / P) ≤ P * (s / P) = times-le P (A / P) (s / P) not_lower in
          absurd (omega (arith, whole, part, zero_left, over, early))
    ]

-- the tick is one at which the windows of all levels begin
abbrev pub LevelsBegin : Configuration → ℕ → Type 0
LevelsBegin c A = (i : ℕ) → 0 < period c i → A % period c i ≡ 0

module _ (c : Configuration) (A : ℕ) (begins : LevelsBegin c A) where
  pub start-behind : (i u : ℕ) → 0 < period c i → window_start c i (u + A) ≡ window_start c i u + A
  start-behind i u positive =
      let zero_left : A % period c i ≡ 0 = begins i positive in
      let place : (u + A) % period c i ≡ u % period c i = sym (add-mod-mod u A (period c i)) ∙ rw zero_left (ap (λ k. k % period c i) (omega arith)) in
      let most = mod-most u (period c i) in
      rw place (omega (arith, most))

  pub end-behind : (i u : ℕ) → 0 < period c i → window_end c i (u + A) ≡ window_end c i u + A
  end-behind i u positive = let e = start-behind i u positive in omega (arith, e)

  pub end-before : (i s : ℕ) → 0 < period c i → s < A → window_end c i s ≤ A
  end-before i s positive early = end-by c i A s positive (begins i positive) early

  pub window-behind : (new one : List Entry) (d i : ℕ) → length one ≡ A → 0 < period c i → window c (d + A) (new ++ one) i ≡ window c d new i
  window-behind new one d i long positive =
      let s = start-behind i d positive in
      let whole : length (new ++ one) ≡ length new + A = length-append new one ∙ ap (λ k. length new + k) long in
      let left : length (new ++ one) - window_start c i (d + A) ≡ length new - window_start c i d = omega (arith, s, whole) in
      let few : length new - window_start c i d ≤ length new = omega arith in
      ap (λ k. take k (new ++ one)) left ∙ take-append-le (length new - window_start c i d) new one few

  pub stopped-behind : (d : ℕ) (o : Option ℕ) → option_map_or (λ stop. ltb stop (d + A)) o false ≡ stopped_before d (stop_since A o)
  stopped-behind d None = refl
  stopped-behind d (Some s) =
      elim (cases_lt s A) [
        | inl early ↦
            let t : ltb s A ≡ true = grind (arith, nat_tests) in
            let u : ltb s (d + A) ≡ true = grind (arith, nat_tests) in
            rw (t, u) refl
        | inr later ↦
            let t : ltb s A ≡ false = grind (arith, nat_tests) in
            rw (t, ltb-behind A s d later) refl
      ]

  stands-at : (d level start : ℕ) (o : Option ℕ) → 0 < period c level
      → (not (option_map_or (λ stop. ltb stop start) o false)
      && not (option_map_or (λ tick. leb tick (d + A)) (option_map_or (λ stop. Some (window_end c level stop)) o None) false))
      ≡ stands c d level (start - A) (stop_since A o)
  stands-at d level start None positive = refl
  stands-at d level start (Some s) positive =
      elim (cases_lt s A) [
        | inl early ↦
            let t : ltb s A ≡ true = grind (arith, nat_tests) in
            let ended = end-before level s positive early in
            let u : leb (window_end c level s) (d + A) ≡ true = grind (arith, nat_tests) in
            elim (cases_Bool (ltb s start)) [ inl v ↦ rw (t, u, v) refl | inr v ↦ rw (t, u, v) refl ]
        | inr later ↦
            let t : ltb s A ≡ false = grind (arith, nat_tests) in
            let back : (s - A) + A ≡ s = omega arith in
            let ends : window_end c level s ≡ window_end c level (s - A) + A = ap (window_end c level) (sym back) ∙ end-behind level (s - A) positive in
            let less : window_end c level s - A ≡ window_end c level (s - A) = omega (arith, ends) in
            let u : leb (window_end c level s) (d + A) ≡ leb (window_end c level (s - A)) d = leb-behind A (window_end c level s) d ∙ ap (λ k. leb k d) less in
            rw (t, ltb-both A s start later, u) refl
      ]

  -- a child that is neither void nor ended
  pub stands-behind : (d : ℕ) (x : Thread) → 0 < period c x.level
      → (not (is_void x) && not (is_ended_by c (d + A) x)) ≡ stands c d x.level (x.start - A) (stop_since A x.stop)
  stands-behind d x positive = stands-at d x.level x.start x.stop positive

  share-at : (d start : ℕ) (o : Option ℕ)
      → ((not (option_map_or (λ stop. ltb stop start) o false) && leb start (d + A)) && not (option_map_or (λ stop. ltb stop (d + A)) o false))
      ≡ has_share d (start - A) (stop_since A o)
  share-at d start None = rw (leb-behind A start d) (and-true-last (leb (start - A) d))
    where
      and-true-last : (b : Bool) → (b && true) ≡ b
      and-true-last true = refl
      and-true-last false = refl
  share-at d start (Some s) =
      elim (cases_lt s A) [
        | inl early ↦
            let t : ltb s A ≡ true = grind (arith, nat_tests) in
            let u : ltb s (d + A) ≡ true = grind (arith, nat_tests) in
            rw (t, u) (and-false-last (not (ltb s start) && leb start (d + A)))
        | inr later ↦
            let t : ltb s A ≡ false = grind (arith, nat_tests) in
            rw (t, ltb-both A s start later, leb-behind A start d, ltb-behind A s d later) refl
      ]
    where
      and-false-last : (b : Bool) → (b && false) ≡ false
      and-false-last true = refl
      and-false-last false = refl

  pub share-behind : (d : ℕ) (x : Thread)
      → ((not (is_void x) && leb x.start (d + A)) && not (is_stopped_before (d + A) x)) ≡ has_share d (x.start - A) (stop_since A x.stop)
  share-behind d x = share-at d x.start x.stop

  in-at : (d level : ℕ) (o : Option ℕ) → 0 < period c level
      → option_map_or (λ stop. leb (window_start c level (d + A)) stop && ltb stop (window_end c level (d + A))) o false
      ≡ stopped_in c d level (stop_since A o)
  in-at d level None positive = refl
  in-at d level (Some s) positive =
      let a = start-behind level d positive in
      let b = end-behind level d positive in
      elim (cases_lt s A) [
        | inl early ↦
            let t : ltb s A ≡ true = grind (arith, nat_tests) in
            let u : leb (window_start c level (d + A)) s ≡ false = grind (arith, nat_tests) in
            rw (t, u) refl
        | inr later ↦
            let t : ltb s A ≡ false = grind (arith, nat_tests) in
            let low : leb (window_start c level (d + A)) s ≡ leb (window_start c level d) (s - A) = ap (λ k. leb k s) a ∙ leb-ahead A s (window_start c level d) later in
            let high : ltb s (window_end c level (d + A)) ≡ ltb (s - A) (window_end c level d) = ap (ltb s) b ∙ ltb-behind A s (window_end c level d) later in
            rw t (ap (λ x. x && ltb s (window_end c level (d + A))) low ∙ ap (λ x. leb (window_start c level d) (s - A) && x) high)
      ]

  pub in-behind : (d : ℕ) (x : Thread) → 0 < period c x.level → is_stopped_in c (d + A) x ≡ stopped_in c d x.level (stop_since A x.stop)
  in-behind d x positive = in-at d x.level x.stop positive

  every-behind : (step first n : ℕ) (f : ℕ → ℕ) → sum_every step (first + A) n f ≡ sum_every step first n (λ s. f (s + A))
  every-behind step first zero f = refl
  every-behind step first (suc n) f =
      let next : first + A + step ≡ (first + step) + A = omega arith in
      ap (λ k. f (first + A) + sum_every step k n f) next ∙ ap (λ k. f (first + A) + k) (every-behind step (first + step) n f)

  pub starts-behind : (i d before_ : ℕ) (f : ℕ → ℕ) → 0 < period c i
      → sum_starts c i (d + A) (before_ + A) f ≡ sum_starts c i d before_ (λ s. f (s + A))
  starts-behind i d before_ f positive =
      let e = end-behind i d positive in
      let gap : (before_ + A) - window_end c i (d + A) ≡ before_ - window_end c i d = omega (arith, e) in
      ap (λ k. sum_every (period c i) k (windows_left c i (d + A) (before_ + A)) f) e
      ∙ ap (λ k. sum_every (period c i) (window_end c i d + A) (k / period c i) f) gap
      ∙ every-behind (period c i) (window_end c i d) (windows_left c i d before_) f

abbrev pub stop_after : Bool → ℕ → Stop → Stop
stop_after b d (since e) = since e
stop_after b d before = before
stop_after b d never = cond b (since d) never

after-stop : (b : Bool) (d : ℕ) (t : Bool) (n : ℕ) → stop_after b d (cond t before (since n)) ≡ cond t before (since n)
after-stop b d true n = refl
after-stop b d false n = refl

stop-later : (A d : ℕ) (b : Bool) (o : Option ℕ) → stop_since A (option_or o (then_some b (d + A))) ≡ stop_after b d (stop_since A o)
stop-later A d b (Some s) = sym (after-stop b d (ltb s A) (s - A))
stop-later A d false None = refl
stop-later A d true None =
    let t : ltb (d + A) A ≡ false = grind (arith, nat_tests) in
    let n : (d + A) - A ≡ d = omega arith in
    rw (t, n) refl

-- what an entry changes of a row
abbrev pub row_after : Entry → ℕ → Since → Since
row_after e d r = record { id = r.id; level = r.level; quota = r.quota; start = r.start; stop = stop_after (stops r.id e) d r.stop }

pub row-later : (A d : ℕ) (e : Entry) (x : Thread) → row_since A (after_entry e (d + A) x) ≡ row_after e d (row_since A x)
row-later A d e x =
    ap (λ (s : Stop). record { id = x.id; level = x.level; quota = x.quota; start = x.start - A; stop = s }) (stop-later A d (stops x.id e) x.stop)

-- The run in which no thread has an event, and the lock that it could have.
use Rattle.dk_warnings.proofs.Names.{drop, ℕ, zero, suc, ◌≡◌, ◌+◌, ◌<◌, inl, inr, Bool, true, false, cond, ltb, List, [], ◌∷◌, length, take, refl, ap, ◌∙◌, arith, Option, MatchOption, list_any, cases_Bool, nat_tests, Configuration, ThreadId, Work, Label, Entry, is_wait, does, quiet, Thread, family, share, held_by, chosen, Audited, ThreadFollows, label_of, family-charged, share-charged, quiet-stops}

-- the run in which nobody calls, from a past on
unfoldable pub quiet_run : Configuration → List Entry → ℕ → List Entry
quiet_run c base zero = base
quiet_run c base (suc n) = quiet (label_of (chosen c (quiet_run c base n)) Work.Run) ∷ quiet_run c base n

-- its entries
unfoldable pub new_entries : Configuration → List Entry → ℕ → List Entry
new_entries c base zero = []
new_entries c base (suc n) = quiet (label_of (chosen c (quiet_run c base n)) Work.Run) ∷ new_entries c base n

pub length-quiet : (c : Configuration) (base : List Entry) (n : ℕ) → length (quiet_run c base n) ≡ n + length base
unfolding quiet_run
length-quiet c base zero = omega arith
length-quiet c base (suc n) = let rest = length-quiet c base n in omega (arith, rest)

pub take-quiet : (c : Configuration) (base : List Entry) (n : ℕ) → take n (quiet_run c base n) ≡ new_entries c base n
unfolding quiet_run new_entries
take-quiet c base zero = refl
take-quiet c base (suc n) = ap (λ es. quiet (label_of (chosen c (quiet_run c base n)) Work.Run) ∷ es) (take-quiet c base n)

pub drop-quiet : (c : Configuration) (base : List Entry) (n : ℕ) → drop n (quiet_run c base n) ≡ base
unfolding quiet_run
drop-quiet c base zero = refl
drop-quiet c base (suc n) = drop-quiet c base n

-- nobody holds anything after a quiet entry where nobody did before
pub held-quiet : (x : ThreadId) (label : Label) (past : List Entry) → held_by x past ≡ [] → held_by x (quiet label ∷ past) ≡ []
held-quiet x label past before = grind (arith, nat_tests, quiet-stops)

abbrev pub IsFree : List Entry → Type 0
IsFree past = (x : ThreadId) → held_by x past ≡ []

pub held-none : (c : Configuration) (base : List Entry) (n : ℕ) → IsFree base → IsFree (quiet_run c base n)
unfolding quiet_run
held-none c base zero free x = free x
held-none c base (suc n) free x = held-quiet x (label_of (chosen c (quiet_run c base n)) Work.Run) (quiet_run c base n) (held-none c base n free x)

-- nobody is made or stopped
pub family-quiet : (c : Configuration) (base : List Entry) (p n : ℕ) → family c p (quiet_run c base n) ≡ family c p base
unfolding quiet_run
family-quiet c base p zero = refl
family-quiet c base p (suc n) = family-charged c p (label_of (chosen c (quiet_run c base n)) Work.Run) (quiet_run c base n) ∙ family-quiet c base p n

pub share-quiet : (c : Configuration) (base : List Entry) (x : Thread) (n s : ℕ) → share c (quiet_run c base n) x s ≡ share c base x s
unfolding quiet_run
share-quiet c base x zero s = refl
share-quiet c base x (suc n) s = share-charged c (label_of (chosen c (quiet_run c base n)) Work.Run) (quiet_run c base n) x s ∙ share-quiet c base x n s

thread-follows : (c : Configuration) (past : List Entry) (label : Label) (x : ThreadId) → held_by x past ≡ [] → ThreadFollows c past (quiet label) x
thread-follows c past label x none = grind (arith, nat_tests)

match-thread : (c : Configuration) (past : List Entry) (label : Label) (o : Option ThreadId) → IsFree past
    → MatchOption o (Unit {0}) (ThreadFollows c past (quiet label))
match-thread c past label o free = grind (arith, nat_tests, thread-follows)

-- it follows the rules
pub quiet-audited : (c : Configuration) (base : List Entry) (n : ℕ) → Audited c base → IsFree base → Audited c (quiet_run c base n)
unfolding quiet_run
quiet-audited c base zero audited free = audited
quiet-audited c base (suc n) audited free = grind (arith, nat_tests, match-thread, held-none, quiet-audited c base n)

-- nobody waits
pub no-waits : (c : Configuration) (base : List Entry) (x : ThreadId) (n : ℕ) → list_any (does is_wait x) (new_entries c base n) ≡ false
unfolding new_entries
no-waits c base x zero = refl
no-waits c base x (suc n) = grind (arith, nat_tests, no-waits c base x n)

-- a count that rises by one at most passes each number
pub passes-at : (f : ℕ → ℕ) (b : ℕ → Bool) → ((n : ℕ) → f (suc n) ≡ cond (b n) 1 0 + f n) → f 0 ≡ 0 → (W n : ℕ) → W < f n
    → (t : ℕ) × (t < n) × (f t ≡ W) × (b t ≡ true)
passes-at f b step start W zero more = absurd (omega arith)
passes-at f b step start W (suc n) more =
    elim (cases_Bool (ltb W (f n))) [
      | inl earlier ↦
          let before : W < f n = grind (arith, nat_tests) in
          let r = passes-at f b step start W n before in
          (r.0, omega (arith, r.1), r.2, r.3)
      | inr now ↦ grind (arith, nat_tests)
    ]

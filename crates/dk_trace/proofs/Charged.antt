-- What the tick's entry, before its event is known, does to the numbers of a thread.
use Rattle.dk_trace.proofs.Names.{and-false, ℕ, ◌≡◌, ◌+◌, inl, inr, Bool, false, cond, List, [], ◌∷◌, ◌++◌, length, refl, ap, ◌∙◌, append-nil, arith, count_by, map, cases_Bool, Configuration, window_start, or-none, ThreadId, Label, Entry, window, is_of, is_budget_of, is_out_of, stops, quiet, thread_of, Thread, family, after_entry, share, Job, job, is_closed, ThreadFollows, Follows, label_of, Work, innermost_left, held_by, chosen, Choice, nat_tests}
use Rattle.std.proofs.Common.{Option, Some, None, MatchOption}
use Rattle.dk_trace.proofs.Windows.{count-charged}
use Rattle.dk_trace.proofs.Mains.{main_id}

abbrev pub the_job : ℕ → ℕ → ℕ → Bool → Job
the_job share used out_ticks closed = record { share = share; used = used; out_ticks = out_ticks; closed = closed }

pub quiet-stops : (x : ThreadId) (label : Label) → stops x (quiet label) ≡ false
quiet-stops x label = simp and-false

quiet-row : (label : Label) (tick : ℕ) (x : Thread) → after_entry (quiet label) tick x ≡ x
quiet-row label tick x = rw (quiet-stops x.id label, or-none x.stop) refl

quiet-rows : (label : Label) (tick : ℕ) (xs : List Thread) → map (after_entry (quiet label) tick) xs ≡ xs
quiet-rows label tick [] = refl
quiet-rows label tick (x ∷ xs) = rw (quiet-row label tick x, quiet-rows label tick xs) refl

-- an entry without event makes and stops nobody
pub family-charged : (c : Configuration) (p : ℕ) (label : Label) (past : List Entry) → family c p (quiet label ∷ past) ≡ family c p past
family-charged c p label past =
    ap (λ xs. xs ++ cond (is_of (main_id p) (quiet label)) [] []) (quiet-rows label (length past) (family c p past))
    ∙ elim (cases_Bool (is_of (main_id p) (quiet label))) [
      | inl mine ↦ rw mine (append-nil (family c p past))
      | inr other ↦ rw other (append-nil (family c p past))
    ]

pub share-charged : (c : Configuration) (label : Label) (past : List Entry) (x : Thread) (s : ℕ) → share c (quiet label ∷ past) x s ≡ share c past x s
share-charged c label past x s = grind (arith, nat_tests, family-charged)

pub closed-charged : (c : Configuration) (label : Label) (past : List Entry) (x : Thread)
    → is_closed c (length past) (quiet label ∷ past) x ≡ is_closed c (length past) past x
closed-charged c label past x = grind (arith, nat_tests)

pub same-job : (a a' b b' o o' : ℕ) (k k' : Bool) → a ≡ a' → b ≡ b' → o ≡ o' → k ≡ k'
    → the_job a b o k ≡ the_job a' b' o' k'
same-job a a' b b' o o' k k' p q r t = cc

-- the numbers of any thread after the entry: used rises by its budget tick, out_ticks by its out tick
pub job-charged : (c : Configuration) (label : Label) (past : List Entry) (x : Thread)
    → job c (length past) (quiet label ∷ past) x
    ≡ record {
      share = (job c (length past) past x).share;
      used = cond (is_budget_of x.id (quiet label)) 1 0 + (job c (length past) past x).used;
      out_ticks = cond (is_out_of x.id (quiet label)) 1 0 + (job c (length past) past x).out_ticks;
      closed = (job c (length past) past x).closed;
    }
job-charged c label past x =
    let n = length past in
    let i = x.level in
    same-job (share c (quiet label ∷ past) x (window_start c i n)) (share c past x (window_start c i n))
    (count_by (is_budget_of x.id) (window c n (quiet label ∷ past) i)) (cond (is_budget_of x.id (quiet label)) 1 0 + count_by (is_budget_of x.id) (window c n past i))
    (count_by (is_out_of x.id) (window c n (quiet label ∷ past) i)) (cond (is_out_of x.id (quiet label)) 1 0 + count_by (is_out_of x.id) (window c n past i))
    (is_closed c n (quiet label ∷ past) x) (is_closed c n past x)
    (share-charged c label past x (window_start c i n))
    (count-charged (is_budget_of x.id) c (quiet label) past i)
    (count-charged (is_out_of x.id) c (quiet label) past i)
    (closed-charged c label past x)

-- a tick of the choice without an event follows the rules, where whoever it names holds nothing
pub quiet-follows : (c : Configuration) (past : List Entry) (choice : Choice) → choice ≡ chosen c past
    → ((x : ThreadId) → thread_of (label_of choice Work.Run) ≡ Some x → innermost_left c (held_by x past) ≡ 0)
    → Follows c past (quiet (label_of choice Work.Run))
quiet-follows c past choice chose free = record {
  choice = inl (ap (λ z. label_of z Work.Run) chose);
  work = tt;
  thread = of (thread_of (label_of choice Work.Run)) free;
}
  where
    of : (o : Option ThreadId) → ((x : ThreadId) → o ≡ Some x → innermost_left c (held_by x past) ≡ 0)
        → MatchOption o (Unit {0}) (ThreadFollows c past (quiet (label_of choice Work.Run)))
    of None none = tt
    of (Some x) none = (let zero_left = none x refl in record { fault = λ never. absurd (cc); last = λ one. absurd (omega (arith, zero_left, one)); met = tt })

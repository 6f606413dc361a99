-- A run that stands as it stood before goes on as it did.
use Rattle.dk_repeat.proofs.Names.{ℕ, zero, suc, ◌≡◌, ◌+◌, ◌-◌, ◌*◌, ◌<◌, inl, inr, true, false, List, [], ◌∷◌, ◌++◌, length, Option, Some, None, refl, sym, ap, ◌∙◌, subst, arith, slice_index_or, option_map_or, cases_lt, cases_Bool, eqb_tells, slice_get_past, LevelRow, Configuration, period, IsChecked, IsAccepted, ThreadId, Choice, Entry, family, held_by, is_holding, is_holder, chosen, Work, Audited, label_of, Always, ChoosesWithCause, BeginsFree, ChosenHolds, ThreadsPlaced, AskersThere, HoldersKnown, RunsAreAudited, TicksAreCounted, Image, World, executes, tick_in, thread_turn, quiet_entry, body_step, quiet_step, step, world, trace, ReadsNoTick, no-tick, turn-code, holds-none, WindowsBegin, ReadsNoTickNext, RunStandsAgain, RunStandsAlike, Standing, standing, newest, entry_at, Bool, Thread, ◌%◌, add-mod-mod, ltb, is_some, map}
use Rattle.std.specs.Prelude.{take}
use Rattle.dk_repeat.proofs.Since.{LevelsBegin, Since, Stop, row_since, stop_since}
use Rattle.dk_repeat.proofs.Pairs.{Pairs}
use Rattle.dk_repeat.proofs.Twins.{Twin}
use Rattle.dk_repeat.proofs.Standing.{first-twins, twins-go-on}
use Rattle.dk_repeat.proofs.Running.{Executing, executing}
use Rattle.dk_repeat.proofs.Images.{SameImage}
use Rattle.dk_repeat.proofs.Stepping.{world_of, Next, next, no-tick-either}

-- a level with a period is there
level-there : (c : Configuration) (i : ℕ) → 0 < period c i → i < length c.levels
level-there c i positive =
    elim (cases_lt i (length c.levels)) [
      | inl there ↦ there
      | inr past ↦
          let none : period c i ≡ 0 = ap (λ (o : Option LevelRow). option_map_or (λ row. row.period) o 0) (slice_get_past c.levels i past) in
          absurd (omega (arith, positive, none))
    ]

pub begins-of : (c : Configuration) (t : ℕ) → WindowsBegin c t → LevelsBegin c t
begins-of c t all = λ i positive. all i (level-there c i positive)

-- where all windows begin nobody holds a mutex
nobody-holds : (c : Configuration) (past : List Entry) → IsChecked c → IsAccepted c → Audited c past → Always ThreadsPlaced → Always BeginsFree → Always HoldersKnown → LevelsBegin c (length past)
    → (x : ThreadId) → held_by x past ≡ []
nobody-holds c past checked accepted audited placed free known begins x =
    elim (cases_Bool (is_holding (held_by x past))) [
      | inl holds ↦
          let h = known c past checked accepted audited x holds in
          let place = placed c past checked accepted audited h.thread h.among in
          let none = free c past checked accepted audited h.thread h.among (begins h.thread.level (checked.positive h.thread.level place.level)) in
          let some : is_holder past h.thread ≡ true = subst (λ (i : ThreadId). is_holding (held_by i past) ≡ true) (sym h.name) holds in
          absurd (let never : true ≡ false = sym some ∙ none in cc)
      | inr free' ↦ holds-none (held_by x past) free'
    ]

body-code : (c : Configuration) (choice : Choice) (w : World) (p : ℕ) (o : Option ThreadId)
    → ((option_map_or (body_step c choice w) o (quiet_step choice w)).images p).code ≡ (w.images p).code
body-code c choice w p None = refl
body-code c choice w p (Some x) =
    let image : Image = w.images x.process in
    let tick = tick_in c image x.serial in
    elim (eqb_tells p x.process) [
      | inl (mine, same) ↦
          rw mine (turn-code c w.past choice x image tick ∙ ap (λ q. (w.images q).code) (sym same))
      | inr (unlike, differ) ↦ rw unlike refl
    ]

-- no tick changes a program
pub code-stays : (c : Configuration) (programs : List (List ℕ)) (p n : ℕ) → ((world c programs n).images p).code ≡ slice_index_or programs p []
code-stays c programs p zero = refl
code-stays c programs p (suc n) =
    let w : World = world c programs n in
    body-code c (chosen c w.past) w p (executes (chosen c w.past)) ∙ code-stays c programs p n

-- the world after n more ticks
abbrev pub later : Configuration → ℕ → World → World
later c zero w = w
later c (suc n) w = step c (later c n w)

pub world-later : (c : Configuration) (programs : List (List ℕ)) (s n t : ℕ) → t ≡ n + s → world c programs t ≡ later c n (world c programs s)
world-later c programs s zero t is = let same : t ≡ s = omega (arith, is) in ap (world c programs) same
world-later c programs s (suc n) t is =
    let same : t ≡ suc (n + s) = omega (arith, is) in
    ap (world c programs) same ∙ ap (step c) (world-later c programs s n (n + s) refl)

mod-sum : (m n d : ℕ) → m % d ≡ 0 → n % d ≡ 0 → (m + n) % d ≡ 0
mod-sum m n d one other = sym (add-mod-mod m n d) ∙ ap (λ k. (m + k) % d) other ∙ ap (λ k. k % d) (omega arith) ∙ one

mod-rest : (m n d : ℕ) → m % d ≡ 0 → (m + n) % d ≡ 0 → n % d ≡ 0
mod-rest m n d one both =
    ap (λ k. k % d) (omega arith) ∙ sym (ap (λ k. (n + k) % d) one) ∙ add-mod-mod n m d ∙ ap (λ k. k % d) (omega arith) ∙ both

-- twins stand alike
abbrev was-stopped : Stop → Bool
was-stopped Stop.never = false
was-stopped Stop.before = true
was-stopped (Stop.since n) = true

stop-known : (A : ℕ) (o : Option ℕ) → is_some o ≡ was-stopped (stop_since A o)
stop-known A None = refl
stop-known A (Some t) =
    elim (cases_Bool (ltb t A)) [
      | inl early ↦ rw early refl
      | inr late ↦ rw late refl
    ]

abbrev since-standing : Since → Standing
since-standing r = record { id = r.id; level = r.level; quota = r.quota; stopped = was-stopped r.stop }

abbrev standing-with : Thread → Bool → Standing
standing-with x b = record { id = x.id; level = x.level; quota = x.quota; stopped = b }

standing-since : (A : ℕ) (x : Thread) → standing x ≡ since-standing (row_since A x)
standing-since A x = ap (λ b. standing-with x b) (stop-known A x.stop)

twins-stand : (c : Configuration) (A B : ℕ) (xs ys : List Thread) → Pairs (Twin c A B) xs ys → map standing xs ≡ map standing ys
twins-stand c A B [] [] pairs = refl
twins-stand c A B [] (y ∷ ys) pairs = absurd pairs
twins-stand c A B (x ∷ xs) [] pairs = absurd pairs
twins-stand c A B (x ∷ xs) (y ∷ ys) pairs =
    ap (λ z. z ∷ map standing xs) (standing-since A x ∙ ap since-standing pairs.0.same ∙ sym (standing-since B y))
    ∙ ap (λ zs. standing y ∷ zs) (twins-stand c A B xs ys pairs.1)

module _ (c : Configuration) (programs : List (List ℕ)) (s k : ℕ) (checked : IsChecked c) (accepted : IsAccepted c)
    (audits : RunsAreAudited) (counts : TicksAreCounted) (causes : Always ChoosesWithCause) (works : Always ChosenHolds) (placed : Always ThreadsPlaced)
    (there : Always AskersThere) (free : Always BeginsFree) (known : Always HoldersKnown) (again : RunStandsAgain c programs s k) where
  abbrev one : List Entry
  one = trace c programs s

  abbrev other : List Entry
  other = trace c programs (s + k)

  begins-one : LevelsBegin c (length one)
  begins-one = subst (LevelsBegin c) (sym (counts c programs s)) (begins-of c s again.begins)

  begins-other : LevelsBegin c (length other)
  begins-other = subst (LevelsBegin c) (sym (counts c programs (s + k))) (begins-of c (s + k) again.begins_later)

  audited-one : Audited c one
  audited-one = audits c programs s checked accepted

  audited-other : Audited c other
  audited-other = audits c programs (s + k) checked accepted

  held-alike : (x : ThreadId) → held_by x one ≡ held_by x other
  held-alike x =
      nobody-holds c one checked accepted audited-one placed free known begins-one x
      ∙ sym (nobody-holds c other checked accepted audited-other placed free known begins-other x)

  first-rows : (p : ℕ) → p < length c.processes → Pairs (Twin c (length one) (length other)) (family c p one) (family c p other)
  first-rows p here = first-twins c p one other checked here audited-one audited-other begins-one begins-other (again.alike.threads p here)

  rows-after : (new : List Entry) → Audited c (new ++ one) → (p : ℕ) → p < length c.processes
      → Pairs (Twin c (length one) (length other)) (family c p (new ++ one)) (family c p (new ++ other))
  rows-after new audited p here = twins-go-on c p one other new checked here begins-one begins-other audited (first-rows p here)

  codes : (p : ℕ) → ((world c programs s).images p).code ≡ ((world c programs (s + k)).images p).code
  codes p = code-stays c programs p s ∙ sym (code-stays c programs p (s + k))

  -- n ticks after both the run has had the same entries
  record Along (n : ℕ) : Type 0 where
    new : List Entry
    f : ℕ → Image
    g : ℕ → Image
    first : later c n (world c programs s) ≡ world_of (new ++ one) f
    second : later c n (world c programs (s + k)) ≡ world_of (new ++ other) g
    images : (p : ℕ) → p < length c.processes → SameImage c p (new ++ one) (f p) (g p)

  abbrev Still : ℕ → Type 0
  Still n = ReadsNoTickNext c (later c n (world c programs s))

  audited-along : (n : ℕ) (al : Along n) → Audited c (al.new ++ one)
  audited-along n al =
      subst (λ (w : World). Audited c w.past) (world-later c programs s n (n + s) refl ∙ al.first) (audits c programs (n + s) checked accepted)

  runs-along : (n : ℕ) (al : Along n) (x : ThreadId) → executes (chosen c (al.new ++ one)) ≡ Some x → Executing c (al.new ++ one) x
  runs-along n al x runs =
      let past : List Entry = al.new ++ one in
      let audited = audited-along n al in
      executing c past (chosen c past) x checked audited (placed c past checked accepted audited) (there c past checked accepted audited)
      (causes c past checked accepted audited) (works c past checked accepted audited) runs

  still-along : (n : ℕ) (al : Along n) → Still n → ReadsNoTickNext c (world_of (al.new ++ one) al.f)
  still-along n al still = subst (ReadsNoTickNext c) al.first still

  next-along : (n : ℕ) (al : Along n) → Still n
      → Next c (al.new ++ one) (al.new ++ other) (step c (world_of (al.new ++ one) al.f)) (step c (world_of (al.new ++ other) al.g))
  next-along n al still =
      next c one other begins-one begins-other held-alike checked al.new (rows-after al.new (audited-along n al)) al.f al.g al.images
      (runs-along n al) (still-along n al still)

  along : (n : ℕ) → ((m : ℕ) → m < n → Still m) → Along n
  along zero still = record {
    new = [];
    f = (world c programs s).images;
    g = (world c programs (s + k)).images;
    first = refl;
    second = refl;
    images = λ p here. record {
      code = codes p;
      memory = again.alike.memory p here;
      contexts = λ y has running. again.alike.contexts p y here has running;
    };
  }
  along (suc n) still =
      let al = along n (λ m less. still m (omega (arith, less))) in
      let nx = next-along n al (still n (omega arith)) in
      record {
        new = nx.e ∷ al.new;
        f = (step c (world_of (al.new ++ one) al.f)).images;
        g = (step c (world_of (al.new ++ other) al.g)).images;
        first = ap (step c) al.first ∙ ap (λ past. world_of past (step c (world_of (al.new ++ one) al.f)).images) nx.past;
        second = ap (step c) al.second ∙ ap (λ past. world_of past (step c (world_of (al.new ++ other) al.g)).images) nx.past';
        images = nx.images;
      }

  -- the same of the run from the later tick on
  still-later : (n : ℕ) → (m : ℕ) → m < n → Still m
  still-later zero m less = absurd (omega arith)
  still-later (suc n) m less =
      elim (cases_lt m n) [
        | inl before ↦ still-later n m before
        | inr now ↦ let same : n ≡ m = omega (arith, now, less) in subst Still same (elim (cases_lt n k) [
          | inl within ↦
              let is : world c programs (s + n) ≡ later c n (world c programs s) = world-later c programs s n (s + n) (omega arith) in
              subst (ReadsNoTickNext c) is (again.clock n within)
          | inr beyond ↦ go-on n (n - k) (let some = again.later in omega (arith, beyond, some)) (let some = again.later in omega (arith, beyond, some)) (still-later n)
        ])
      ]
    where
      go-on : (n m : ℕ) → m + k ≡ n → m < n → ((j : ℕ) → j < n → Still j) → Still n
      go-on n m sum before still =
          let al = along m (λ j less. still j (omega (arith, less, before))) in
          let same : later c m (world c programs (s + k)) ≡ later c n (world c programs s) =
          sym (world-later c programs (s + k) m (m + (s + k)) refl) ∙ world-later c programs s n (m + (s + k)) (omega (arith, sum)) in
          subst (ReadsNoTickNext c) (sym al.second ∙ same)
          (no-tick-either c one other begins-one begins-other held-alike checked al.new (rows-after al.new (audited-along m al)) al.f al.g al.images
          (runs-along m al) (still-along m al (still m before)))

  all-still : (n : ℕ) → Still n
  all-still n = still-later (suc n) n (omega arith)

  all-along : (n : ℕ) → Along n
  all-along n = along n (λ m less. all-still m)

  pub entries-repeat : (n : ℕ) → entry_at c programs (s + k + n) ≡ entry_at c programs (s + n)
  entries-repeat n =
      let al = all-along n in
      let nx = next-along n al (all-still n) in
      let at : world c programs (suc (s + n)) ≡ step c (world_of (al.new ++ one) al.f) = ap (step c) (world-later c programs s n (s + n) (omega arith) ∙ al.first) in
      let at' : world c programs (suc (s + k + n)) ≡ step c (world_of (al.new ++ other) al.g) = ap (step c) (world-later c programs (s + k) n (s + k + n) (omega arith) ∙ al.second) in
      ap (λ (w : World). newest w.past) at' ∙ ap newest nx.past' ∙ sym (ap newest nx.past) ∙ sym (ap (λ (w : World). newest w.past) at)

  pub memories-repeat : (n p : ℕ) → p < length c.processes → ((world c programs (s + k + n)).images p).memory ≡ ((world c programs (s + n)).images p).memory
  memories-repeat n p here =
      let al = all-along n in
      let at : world c programs (s + n) ≡ world_of (al.new ++ one) al.f = world-later c programs s n (s + n) (omega arith) ∙ al.first in
      let at' : world c programs (s + k + n) ≡ world_of (al.new ++ other) al.g = world-later c programs (s + k) n (s + k + n) (omega arith) ∙ al.second in
      ap (λ (w : World). (w.images p).memory) at' ∙ sym (al.images p here).memory ∙ sym (ap (λ (w : World). (w.images p).memory) at)

  -- the two worlds n ticks later
  alike-later : (n : ℕ) → RunStandsAlike c (world c programs (s + n)) (world c programs (s + k + n))
  alike-later n =
      let al = all-along n in
      let at : world c programs (s + n) ≡ world_of (al.new ++ one) al.f = world-later c programs s n (s + n) (omega arith) ∙ al.first in
      let at' : world c programs (s + k + n) ≡ world_of (al.new ++ other) al.g = world-later c programs (s + k) n (s + k + n) (omega arith) ∙ al.second in
      let alike : RunStandsAlike c (world_of (al.new ++ one) al.f) (world_of (al.new ++ other) al.g) =
      record {
        threads = λ p here. twins-stand c (length one) (length other) (family c p (al.new ++ one)) (family c p (al.new ++ other)) (rows-after al.new (audited-along n al) p here);
        memory = λ p here. (al.images p here).memory;
        contexts = λ p x here has running. (al.images p here).contexts x has running;
      } in
      subst (λ (w : World). RunStandsAlike c w (world c programs (s + k + n))) (sym at)
      (subst (λ (v : World). RunStandsAlike c (world_of (al.new ++ one) al.f) v) (sym at') alike)

  pub stands-on : (n : ℕ) → WindowsBegin c (s + n) → RunStandsAgain c programs (s + n) k
  stands-on n begins =
      let order : s + k + n ≡ s + n + k = omega arith in
      record {
        later = again.later;
        begins = begins;
        begins_later = λ i known. mod-sum (s + n) k (period c i) (begins i known) (mod-rest s k (period c i) (again.begins i known) (again.begins_later i known));
        alike = subst (λ t. RunStandsAlike c (world c programs (s + n)) (world c programs t)) order (alike-later n);
        clock = λ m less.
            let is : world c programs (s + n + m) ≡ later c (n + m) (world c programs s) = world-later c programs s (n + m) (s + n + m) (omega arith) in
            subst (ReadsNoTickNext c) (sym is) (all-still (n + m));
      }

-- cycle by cycle
pub for-ever : (c : Configuration) (programs : List (List ℕ)) (s k : ℕ) → ((n : ℕ) → entry_at c programs (s + k + n) ≡ entry_at c programs (s + n))
    → (cycles n : ℕ) → entry_at c programs (s + cycles * k + n) ≡ entry_at c programs (s + n)
for-ever c programs s k again zero n = let same : s + zero * k + n ≡ s + n = grind arith in ap (entry_at c programs) same
for-ever c programs s k again (suc cycles) n =
    let more : suc cycles * k ≡ k + cycles * k = grind arith in
    let split : s + suc cycles * k + n ≡ s + k + (cycles * k + n) = omega (arith, more) in
    let joined : s + (cycles * k + n) ≡ s + cycles * k + n = omega arith in
    ap (entry_at c programs) split ∙ again (cycles * k + n) ∙ ap (entry_at c programs) joined ∙ for-ever c programs s k again cycles n

-- no program holds the call that reads the tick
pub no-program-reads : (c : Configuration) (programs : List (List ℕ)) (n : ℕ) → IsChecked c → IsAccepted c → RunsAreAudited → Always ChoosesWithCause → Always ChosenHolds
    → Always ThreadsPlaced → Always AskersThere → ((p : ℕ) → p < length c.processes → ReadsNoTick (slice_index_or programs p [])) → ReadsNoTickNext c (world c programs n)
no-program-reads c programs n checked accepted audits causes works placed there clock x runs =
    let past = trace c programs n in
    let audited = audits c programs n checked accepted in
    let ex = executing c past (chosen c past) x checked audited (placed c past checked accepted audited) (there c past checked accepted audited)
    (causes c past checked accepted audited) (works c past checked accepted audited) runs in
    no-tick c (slice_index_or programs x.process []) ((world c programs n).images x.process) x.serial (clock x.process ex.process) (code-stays c programs x.process n)

-- a tick adds its entry
step-adds : (c : Configuration) (w : World) (choice : Choice) (o : Option ThreadId)
    → (e : Entry) × ((option_map_or (body_step c choice w) o (quiet_step choice w)).past ≡ e ∷ w.past)
step-adds c w choice None = (quiet_entry (label_of choice Work.Run), refl)
step-adds c w choice (Some x) = ((thread_turn c w.past choice x (w.images x.process) (tick_in c (w.images x.process) x.serial)).entry, refl)

trace-adds : (c : Configuration) (programs : List (List ℕ)) (t : ℕ) → (e : Entry) × (trace c programs (suc t) ≡ e ∷ trace c programs t)
trace-adds c programs t = step-adds c (world c programs t) (chosen c (trace c programs t)) (executes (chosen c (trace c programs t)))

pub spans : (c : Configuration) (programs : List (List ℕ)) (t u n : ℕ) → ((m : ℕ) → entry_at c programs (t + m) ≡ entry_at c programs (u + m))
    → take n (trace c programs (t + n)) ≡ take n (trace c programs (u + n))
spans c programs t u zero same = refl
spans c programs t u (suc n) same =
    let up : t + suc n ≡ suc (t + n) = omega arith in
    let up' : u + suc n ≡ suc (u + n) = omega arith in
    let a = trace-adds c programs (t + n) in
    let b = trace-adds c programs (u + n) in
    let here : Some a.0 ≡ Some b.0 = sym (ap newest a.1) ∙ same n ∙ ap newest b.1 in
    let first : a.0 ≡ b.0 = cc in
    ap (λ k. take (suc n) (trace c programs k)) up ∙ ap (take (suc n)) a.1
    ∙ ap (λ e. e ∷ take n (trace c programs (t + n))) first ∙ ap (λ es. b.0 ∷ es) (spans c programs t u n same)
    ∙ sym (ap (take (suc n)) b.1) ∙ sym (ap (λ k. take (suc n) (trace c programs k)) up')

-- A process by itself that stands as it stood before goes on as it did.
use Rattle.dk_alone.proofs.Names.{ℕ, zero, suc, ◌≡◌, ◌+◌, ◌-◌, ◌*◌, ◌%◌, ◌<◌, ◌≤◌, inl, inr, Bool, false, cond, List, [], ◌∷◌, ◌++◌, length, refl, sym, ap, ◌∙◌, subst, arith, slice_index_or, take, is_some, take-append-le, add-mod-mod, mul-mod_left, Configuration, IsChecked, IsAccepted, period, main_level, budget, Phase, Choice, Entry, Has, Thread, family, threads, Hold, held_by, is_holding, mod-next, main_id, main_row, main_stop, flat-has, main-has, the_job, ChoosesWithCause, EndsSpent, BeginsFree, Always, RunsAreAudited, World, step_of, world, trace, length-trace, alone, choice_alone, entries_of, KeepsToItself, WindowBegins, main_is_stopped, ProcessStandsAlike, nat_tests}
use Rattle.dk_alone.proofs.Own.{Own, own, unlisted, after, fresh, Plain, plain-later, booked-after, own-within, own-begins}
use Rattle.dk_alone.proofs.Same.{row-at}
use Rattle.dk_alone.proofs.MainTicks.{SameMain, Twins, twins}
use Rattle.dk_alone.proofs.Ties.{Tie, ties, tie-plain, alone-long}

pub holds-none : (hs : List Hold) → is_holding hs ≡ false → hs ≡ []
holds-none hs h = grind (arith, nat_tests)

-- a tick has one entry more
pub entry-by : (c : Configuration) (w : World) (choice : Choice) → (e : Entry) × ((step_of c w choice).past ≡ e ∷ w.past)
entry-by c w (Choice.Kernel k) = (_, refl)
entry-by c w (Choice.Budget x Phase.In) = (_, refl)
entry-by c w (Choice.Budget x Phase.Body) = (_, refl)
entry-by c w (Choice.Budget x Phase.Out) = (_, refl)
entry-by c w (Choice.Slack x source Phase.In) = (_, refl)
entry-by c w (Choice.Slack x source Phase.Body) = (_, refl)
entry-by c w (Choice.Slack x source Phase.Out) = (_, refl)
entry-by c w Choice.Idle = (_, refl)

pub stopped-is : (c : Configuration) (p : ℕ) (past : List Entry) → main_is_stopped c p past ≡ is_some (main_stop p past)
stopped-is c p past = ap (λ (x : Thread). is_some x.stop) (row-at c p past)

-- d ticks after a tick
abbrev pub on : ℕ → ℕ → ℕ
on zero tick = tick
on (suc d) tick = suc (on d tick)

pub on-is : (d tick : ℕ) → on d tick ≡ d + tick
on-is zero tick = omega arith
on-is (suc d) tick = let before = on-is d tick in omega (arith, before)

-- d ticks after A the process by itself is as d ticks after B, with the same entries since
pub record Alike (c : Configuration) (p : ℕ) (program : List ℕ) (A B d : ℕ) : Type 0 where
  pub new : List Entry
  pub long : length new ≡ d
  pub one : (alone c p program (on d A)).past ≡ new ++ (alone c p program A).past
  pub other : (alone c p program (on d B)).past ≡ new ++ (alone c p program B).past
  pub same : unlisted (own c p (alone c p program (on d A)).past) ≡ unlisted (own c p (alone c p program (on d B)).past)
  pub image : SameMain ((alone c p program (on d A)).images p) ((alone c p program (on d B)).images p)
  pub code : ((alone c p program (on d B)).images p).code ≡ program

-- a main whose window begins, stopped or not
abbrev begun : Configuration → ℕ → Bool → Own
begun c p stopped = record { entries = []; job = the_job (cond stopped 0 (budget c p)) 0 0 false; held = []; ended = stopped }

module _ (c : Configuration) (programs : List (List ℕ)) (p : ℕ) (checked : IsChecked c) (accepted : IsAccepted c) (audits : RunsAreAudited)
    (causes : Always ChoosesWithCause) (ends : Always EndsSpent) (free : Always BeginsFree) (keeps : KeepsToItself c p (slice_index_or programs p [])) where
  abbrev program : List ℕ
  program = slice_index_or programs p []

  abbrev v : ℕ → World
  v n = alone c p program n

  abbrev P : ℕ
  P = period c (main_level c p)

  positive : 0 < P
  positive = checked.positive (main_level c p) (checked.levels p keeps.known)

  -- where a window begins the run and the process by itself say the same of it
  pub tied : (n : ℕ) → WindowBegins c p n → Tie c p program (world c programs n) (v n)
  tied n begins =
      let at = ties c programs p checked accepted audits causes ends keeps n in
      let high = at.high in
      let window = at.window in
      let now : at.u ≡ n = omega (arith, high, window, begins) in
      subst (λ k. Tie c p program (world c programs n) (v k)) now at.tie

  -- and its main holds nothing
  held-none : (n : ℕ) → WindowBegins c p n → held_by (main_id p) (v n).past ≡ []
  held-none n begins =
      let past = trace c programs n in
      let has : Has (threads c past) (main_row c p past) =
      flat-has (λ q. family c q past) 0 (length c.processes) p (main_row c p past) (omega arith) (let known = keeps.known in omega arith) (main-has c p past) in
      let start : length past % P ≡ 0 = ap (λ k. k % P) (length-trace c programs n) ∙ begins in
      let nothing = free c past checked accepted (audits c programs n checked accepted) (main_row c p past) has start in
      ap (λ o. o.held) (sym (tied n begins).same) ∙ holds-none (held_by (main_id p) past) nothing

  plain-down : (m n : ℕ) → Plain (entries_of p (v (on m n)).past) → Plain (entries_of p (v n).past)
  plain-down zero n plain = plain
  plain-down (suc m) n plain =
      let grown = entry-by c (v (on m n)) (choice_alone c p (v (on m n)).past) in
      plain-down m n (plain-later p grown.0 (v (on m n)).past (subst (λ past. Plain (entries_of p past)) grown.1 plain))

  plain-all : (n : ℕ) → Plain (entries_of p (v n).past)
  plain-all n =
      let tie = tied (n * P) (mul-mod_left n P) in
      let more : ℕ = n * P - n in
      let far : n ≤ n * P = later n in
      let is : on more n ≡ n * P = on-is more n ∙ omega (arith, far) in
      plain-down more n (subst (λ k. Plain (entries_of p (v k).past)) (sym is) (tie-plain c p program (world c programs (n * P)) (v (n * P)) tie))
    where
      later : (m : ℕ) → m ≤ m * P
      later zero = omega arith
      later (suc m) = let before = later m in let some = positive in omega (arith, before, some)

  begins-as : (n : ℕ) → WindowBegins c p n → unlisted (own c p (v n).past) ≡ begun c p (is_some (main_stop p (v n).past))
  begins-as n begins =
      let past = (v n).past in
      let start : length past % P ≡ 0 = ap (λ k. k % P) (alone-long c p program n) ∙ begins in
      ap unlisted
      (own-begins c p positive past (record { entries = entries_of p past; job = the_job 0 0 0 false; held = []; ended = is_some (main_stop p past) })
      (plain-all n) start refl (held-none n begins) refl)

  plain-next : (n : ℕ) (e : Entry) → (v (suc n)).past ≡ e ∷ (v n).past → Plain (entries_of p (e ∷ (v n).past))
  plain-next n e is = subst (λ past. Plain (entries_of p past)) is (plain-all (suc n))

  -- what the next tick leaves, where it begins a window and where it doesn't
  own-begun : (n : ℕ) (e : Entry) → (v (suc n)).past ≡ e ∷ (v n).past → suc n % P ≡ 0
      → unlisted (own c p (v (suc n)).past) ≡ unlisted (fresh c p positive (after p e (unlisted (own c p (v n).past))))
  own-begun n e is begins =
      let past = (v n).past in
      let plain = plain-next n e is in
      let start : suc (length past) % P ≡ 0 = ap (λ k. suc k % P) (alone-long c p program n) ∙ begins in
      let o : Own = after p e (own c p past) in
      let booked = booked-after c p positive e past plain in
      ap (λ es. unlisted (own c p es)) is
      ∙ ap unlisted (own-begins c p positive (e ∷ past) o plain start (ap (λ z. z.entries) booked) (ap (λ z. z.held) booked) (ap (λ z. z.ended) booked))

  own-on : (n : ℕ) (e : Entry) → (v (suc n)).past ≡ e ∷ (v n).past → suc n % P ≡ suc (n % P)
      → unlisted (own c p (v (suc n)).past) ≡ unlisted (after p e (unlisted (own c p (v n).past)))
  own-on n e is on = grind (arith, nat_tests, alone-long, unlisted, own, own-within, positive, booked-after, plain-next)

  place : (d A : ℕ) → WindowBegins c p A → (on d A) % P ≡ d % P
  place d A begins = ap (λ k. k % P) (on-is d A) ∙ sym (add-mod-mod d A P) ∙ ap (λ k. (d + k) % P) begins ∙ ap (λ k. k % P) (omega arith)

  module _ (A B : ℕ) (begins : WindowBegins c p A) (begins' : WindowBegins c p B) (start : ProcessStandsAlike c p (v A) (v B)) where
    first : Alike c p program A B 0
    first =
        let stopped : is_some (main_stop p (v A).past) ≡ is_some (main_stop p (v B).past) =
        sym (stopped-is c p (v A).past) ∙ start.stopped ∙ stopped-is c p (v B).past in
        let tie = tied A begins in
        let tie' = tied B begins' in
        record {
          new = [];
          long = refl;
          one = refl;
          other = refl;
          same = begins-as A begins ∙ ap (begun c p) stopped ∙ sym (begins-as B begins');
          image = record { code = tie.code ∙ sym tie'.code; memory = start.memory; context = start.context };
          code = tie'.code;
        }

    next : (d : ℕ) → Alike c p program A B d → Alike c p program A B (suc d)
    next d a =
        let w = v (on d A) in
        let u = v (on d B) in
        let t : Twins p w u (v (on (suc d) A)) (v (on (suc d) B)) = twins c p program keeps.clock w u a.same (plain-all (on d A)) (plain-all (on d B)) a.image a.code in
        let long = a.long in
        let turn : unlisted (own c p (v (on (suc d) A)).past) ≡ unlisted (own c p (v (on (suc d) B)).past) =
        elim (mod-next d P positive) [
          | inl end ↦
              own-begun (on d A) t.e t.past (place (suc d) A begins ∙ end.0)
              ∙ ap (λ o. unlisted (fresh c p positive (after p t.e o))) a.same
              ∙ sym (own-begun (on d B) t.e t.past' (place (suc d) B begins' ∙ end.0))
          | inr within ↦
              own-on (on d A) t.e t.past (place (suc d) A begins ∙ within ∙ ap suc (sym (place d A begins)))
              ∙ ap (λ o. unlisted (after p t.e o)) a.same
              ∙ sym (own-on (on d B) t.e t.past' (place (suc d) B begins' ∙ within ∙ ap suc (sym (place d B begins'))))
        ] in
        record {
          new = t.e ∷ a.new;
          long = ap suc long;
          one = t.past ∙ ap (λ es. t.e ∷ es) a.one;
          other = t.past' ∙ ap (λ es. t.e ∷ es) a.other;
          same = turn;
          image = t.image;
          code = t.code ∙ a.code;
        }

    pub alike : (d : ℕ) → Alike c p program A B d
    alike zero = first
    alike (suc d) = next d (alike d)

    -- the last n entries, m + n ticks on
    pub last-same : (m n : ℕ) → take n (v (on (m + n) A)).past ≡ take n (v (on (m + n) B)).past
    last-same m n =
        let a = alike (m + n) in
        let long = a.long in
        let room : n ≤ length a.new = omega (arith, long) in
        ap (take n) a.one ∙ take-append-le n a.new (v A).past room ∙ sym (take-append-le n a.new (v B).past room) ∙ sym (ap (take n) a.other)

    pub stands-same : (d : ℕ) → ProcessStandsAlike c p (v (on d A)) (v (on d B))
    stands-same d =
        let a = alike d in
        record {
          memory = a.image.memory;
          context = a.image.context;
          stopped = stopped-is c p (v (on d A)).past ∙ ap (λ o. o.ended) a.same ∙ sym (stopped-is c p (v (on d B)).past);
        }

-- Cycles of a process by itself, and of the process in every run.
use Rattle.dk_alone.proofs.Names.{ℕ, zero, suc, ◌≡◌, ◌+◌, ◌*◌, ◌%◌, List, [], ◌∷◌, ◌++◌, refl, sym, ap, ◌∙◌, subst, arith, slice_index_or, replicate, take, append_cancel_right, filter-append, add-mod-mod, Configuration, IsChecked, IsAccepted, period, main_level, Entry, chosen, ChoosesWithCause, EndsSpent, BeginsFree, Always, RunsAreAudited, World, world, trace, alone, choice_alone, is_of_process, entries_of, KeepsToItself, IsSameFor, WindowBegins, ProcessStandsAlike, StandsAgainAlone, ProcessStandsAgain}
use Rattle.dk_alone.proofs.Again.{on, on-is, entry-by, stopped-is, tied, last-same, stands-same}

stands-back : (c : Configuration) (p : ℕ) (one other : World) → ProcessStandsAlike c p one other → ProcessStandsAlike c p other one
stands-back c p one other a = record { memory = sym a.memory; context = sym a.context; stopped = sym a.stopped }

stands-on : (c : Configuration) (p : ℕ) (one between other : World) → ProcessStandsAlike c p one between → ProcessStandsAlike c p between other → ProcessStandsAlike c p one other
stands-on c p one between other a b = record { memory = a.memory ∙ b.memory; context = a.context ∙ b.context; stopped = a.stopped ∙ b.stopped }

-- programs with this one for the process
pub program-there : (p : ℕ) (program : List ℕ) → slice_index_or (replicate (suc p) program) p [] ≡ program
program-there zero program = refl
program-there (suc p) program = program-there p program

next-cycle : (cycles k : ℕ) → suc cycles * k ≡ k + cycles * k
next-cycle cycles k = grind arith

-- where windows begin, counted together
pub begins-sum : (c : Configuration) (p m n : ℕ) → WindowBegins c p m → WindowBegins c p n → WindowBegins c p (m + n)
begins-sum c p m n begins begins' =
    let P = period c (main_level c p) in
    sym (add-mod-mod m n P) ∙ ap (λ k. (m + k) % P) begins' ∙ ap (λ k. k % P) (omega arith) ∙ begins

pub begins-rest : (c : Configuration) (p m n : ℕ) → WindowBegins c p m → WindowBegins c p (m + n) → WindowBegins c p n
begins-rest c p m n begins both =
    let P = period c (main_level c p) in
    ap (λ k. k % P) (omega arith) ∙ sym (ap (λ k. (n + k) % P) begins) ∙ add-mod-mod n m P ∙ ap (λ k. k % P) (omega arith) ∙ both

pub begins-cycles : (c : Configuration) (p k cycles : ℕ) → WindowBegins c p k → WindowBegins c p (cycles * k)
begins-cycles c p k zero begins = subst (WindowBegins c p) (omega arith) (begins-rest c p k 0 begins (subst (WindowBegins c p) (omega arith) begins))
begins-cycles c p k (suc cycles) begins =
    subst (WindowBegins c p) (sym (next-cycle cycles k)) (begins-sum c p k (cycles * k) begins (begins-cycles c p k cycles begins))

pub begins-far : (c : Configuration) (p s k cycles m : ℕ) → WindowBegins c p s → WindowBegins c p (s + k) → WindowBegins c p m → WindowBegins c p (s + cycles * k + m)
begins-far c p s k cycles m begins later more =
    begins-sum c p (s + cycles * k) m (begins-sum c p s (cycles * k) begins (begins-cycles c p k cycles (begins-rest c p s k begins later))) more

-- the entries of the last ticks stand before those of an earlier tick
split : (f : ℕ → List Entry) → ((n : ℕ) → (e : Entry) × (f (suc n) ≡ e ∷ f n)) → (d t : ℕ) → f (on d t) ≡ take d (f (on d t)) ++ f t
split f grows zero t = refl
split f grows (suc d) t =
    let grown = grows (on d t) in
    subst (λ es. es ≡ take (suc d) es ++ f t) (sym grown.1) (ap (λ es. grown.0 ∷ es) (split f grows d t))

-- so the entries of a process are parted
parted : (p : ℕ) (f : ℕ → List Entry) → ((n : ℕ) → (e : Entry) × (f (suc n) ≡ e ∷ f n)) → (t n : ℕ)
    → entries_of p (f (t + n)) ≡ entries_of p (take n (f (t + n))) ++ entries_of p (f t)
parted p f grows t n =
    let is : on n t ≡ t + n = on-is n t ∙ omega arith in
    ap (entries_of p) (subst (λ k. f k ≡ take n (f k) ++ f t) is (split f grows n t)) ∙ filter-append (is_of_process p) (take n (f (t + n))) (f t)

-- whole windows have the entries of the process by itself
pub windows-as-alone : (c : Configuration) (programs : List (List ℕ)) (p t n : ℕ) (program : List ℕ)
    → IsSameFor p (world c programs t) (alone c p program t) → IsSameFor p (world c programs (t + n)) (alone c p program (t + n))
    → entries_of p (take n (trace c programs (t + n))) ≡ entries_of p (take n (alone c p program (t + n)).past)
windows-as-alone c programs p t n program here there =
    append_cancel_right (entries_of p (take n (trace c programs (t + n)))) (entries_of p (take n (alone c p program (t + n)).past)) (entries_of p (trace c programs t))
    (sym (parted p (λ k. trace c programs k) (λ k. entry-by c (world c programs k) (chosen c (trace c programs k))) t n)
    ∙ there.entries
    ∙ parted p (λ k. (alone c p program k).past) (λ k. entry-by c (alone c p program k) (choice_alone c p (alone c p program k).past)) t n
    ∙ ap (λ es. entries_of p (take n (alone c p program (t + n)).past) ++ es) (sym here.entries))

module _ (c : Configuration) (programs : List (List ℕ)) (p : ℕ) (checked : IsChecked c) (accepted : IsAccepted c) (audits : RunsAreAudited)
    (causes : Always ChoosesWithCause) (ends : Always EndsSpent) (free : Always BeginsFree) (keeps : KeepsToItself c p (slice_index_or programs p [])) where
  abbrev v : ℕ → World
  v n = alone c p (slice_index_or programs p []) n

  -- where a window begins the process stands as by itself
  pub as-alone : (n : ℕ) → WindowBegins c p n → ProcessStandsAlike c p (world c programs n) (v n)
  as-alone n begins =
      let tie = tied c programs p checked accepted audits causes ends free keeps n begins in
      record {
        memory = ap (λ i. i.memory) tie.image;
        context = ap (λ i. i.contexts 0) tie.image;
        stopped = stopped-is c p (trace c programs n) ∙ ap (λ o. o.ended) tie.same ∙ sym (stopped-is c p (v n).past);
      }

  pub again-alone : (s k : ℕ) → ProcessStandsAgain c programs p s k → StandsAgainAlone c p (slice_index_or programs p []) s k
  again-alone s k again = record {
    later = again.later;
    begins = again.begins;
    begins_later = again.begins_later;
    alike = stands-on c p (v s) (world c programs s) (v (s + k)) (stands-back c p (world c programs s) (v s) (as-alone s again.begins))
        (stands-on c p (world c programs s) (world c programs (s + k)) (v (s + k)) again.alike (as-alone (s + k) again.begins_later));
  }

  module _ (s k : ℕ) (again : StandsAgainAlone c p (slice_index_or programs p []) s k) where
    back : ProcessStandsAlike c p (v (s + k)) (v s)
    back = stands-back c p (v s) (v (s + k)) again.alike

    -- the last n entries are those of a cycle before, and those of the first cycle
    one-cycle : (m n : ℕ) → take n (v ((m + n) + (s + k))).past ≡ take n (v ((m + n) + s)).past
    one-cycle m n =
        ap (λ i. take n (v i).past) (sym (on-is (m + n) (s + k)))
        ∙ last-same c programs p checked accepted audits causes ends free keeps (s + k) s again.begins_later again.begins back m n
        ∙ ap (λ i. take n (v i).past) (on-is (m + n) s)

    pub cycles-alone : (cycles m n : ℕ) → take n (v (s + cycles * k + m + n)).past ≡ take n (v (s + m + n)).past
    cycles-alone zero m n = ap (λ i. take n (v i).past) (omega arith)
    cycles-alone (suc cycles) m n =
        let cycle = next-cycle cycles k in
        let far : s + suc cycles * k + m + n ≡ ((cycles * k + m) + n) + (s + k) = omega (arith, cycle) in
        ap (λ i. take n (v i).past) far ∙ one-cycle (cycles * k + m) n ∙ ap (λ i. take n (v i).past) (omega arith) ∙ cycles-alone cycles m n

    one-stand : (d : ℕ) → ProcessStandsAlike c p (v (d + (s + k))) (v (d + s))
    one-stand d =
        subst (λ i. ProcessStandsAlike c p (v (d + (s + k))) (v i)) (on-is d s)
        (subst (λ i. ProcessStandsAlike c p (v i) (v (on d s))) (on-is d (s + k))
        (stands-same c programs p checked accepted audits causes ends free keeps (s + k) s again.begins_later again.begins back d))

    pub stands-alone : (cycles n : ℕ) → ProcessStandsAlike c p (v (s + cycles * k + n)) (v (s + n))
    stands-alone zero n =
        let same : s + n ≡ s + 0 * k + n = omega arith in
        subst (λ i. ProcessStandsAlike c p (v i) (v (s + n))) same (record { memory = refl; context = refl; stopped = refl })
    stands-alone (suc cycles) n =
        let cycle = next-cycle cycles k in
        let far : (cycles * k + n) + (s + k) ≡ s + suc cycles * k + n = omega (arith, cycle) in
        let near : (cycles * k + n) + s ≡ s + cycles * k + n = omega arith in
        stands-on c p (v (s + suc cycles * k + n)) (v (s + cycles * k + n)) (v (s + n))
        (subst (λ i. ProcessStandsAlike c p (v (s + suc cycles * k + n)) (v i)) near
        (subst (λ i. ProcessStandsAlike c p (v i) (v ((cycles * k + n) + s))) far (one-stand (cycles * k + n))))
        (stands-alone cycles n)

    -- so does a world that stands as the process by itself, as that of another run
    pub stands-always : (cycles n : ℕ) (w : World) → ProcessStandsAlike c p w (v (s + cycles * k + n)) → WindowBegins c p n → ProcessStandsAlike c p w (world c programs (s + n))
    stands-always cycles n w alike begins =
        stands-on c p w (v (s + cycles * k + n)) (world c programs (s + n)) alike
        (stands-on c p (v (s + cycles * k + n)) (v (s + n)) (world c programs (s + n)) (stands-alone cycles n)
        (stands-back c p (world c programs (s + n)) (v (s + n)) (as-alone (s + n) (begins-sum c p s n again.begins begins))))

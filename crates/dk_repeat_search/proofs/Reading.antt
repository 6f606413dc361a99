-- The searches of a kernel's run after more ticks.
use Rattle.dk_repeat_search.proofs.Names.{ℕ, ◌≡◌, ◌+◌, ◌∙◌, ◌∷◌, Option, sym, ap, subst, arith, Configuration, IsChecked, IsAccepted, Entry, trace, Running, trace_of, RunSearch, Follows, FollowsOn, HaveLooked, IsReader, GoQuietly, SearchesStay, Searches, IsSearching}
use Rattle.dk_repeat_search.proofs.Looking.{run-later}
use Rattle.dk_repeat_search.proofs.Owning.{searches-later}

-- the searches after one more tick
pub searching-next : (k l : Running) (s : Searches) (e : Entry) (reader : Option ℕ) (run : RunSearch) → l ≡ record k { ticks = k.ticks + 1 } → trace_of l ≡ e ∷ trace_of k
    → IsChecked l.config → IsAccepted l.config → IsSearching k s
    → ((n : ℕ) → l.ticks ≡ n + 1 → trace l.config l.programs (n + 1) ≡ e ∷ trace l.config l.programs n → IsReader l.config l.programs n e reader)
    → Follows s.run k.ticks e reader run → IsSearching l (record s { run = run })
searching-next k l s e reader run next adds checked' accepted' is reads follows =
    let config : l.config ≡ k.config = ap (λ (r : Running). r.config) next in
    let programs : l.programs ≡ k.programs = ap (λ (r : Running). r.programs) next in
    let ticks : l.ticks ≡ k.ticks + 1 = ap (λ (r : Running). r.ticks) next in
    let checked : IsChecked k.config = subst (λ (c : Configuration). IsChecked c) config checked' in
    let accepted : IsAccepted k.config = subst (λ (c : Configuration). IsAccepted c) config accepted' in
    let more : trace k.config k.programs (k.ticks + 1) ≡ e ∷ trace k.config k.programs k.ticks = ap (λ (r : Running). trace_of r) (sym next) ∙ adds in
    let read : IsReader k.config k.programs k.ticks e reader =
    subst (λ (r : Running). trace r.config r.programs (k.ticks + 1) ≡ e ∷ trace r.config r.programs k.ticks → IsReader r.config r.programs k.ticks e reader) next
    (reads k.ticks ticks) more in
    subst (λ (r : Running). IsSearching r (record s { run = run })) (sym next)
    (record {
      run = follows k.config k.programs checked accepted is.run more read;
      own = record { all = searches-later k.config k.programs k.ticks 1 s.own.items is.own.all; processes = is.own.processes };
      programs = is.programs;
      each = is.each;
    })

-- and after some in which nobody is at a kernel call
pub searching-quiet : (k l : Running) (s : Searches) (n : ℕ) → SearchesStay → l ≡ record k { ticks = k.ticks + n } → IsChecked k.config → IsAccepted k.config
    → GoQuietly k.config k.programs k.ticks n → IsSearching k s → IsSearching l s
searching-quiet k l s n law next checked accepted go is =
    subst (λ (r : Running). IsSearching r s) (sym next)
    (record {
      run = law k.config k.programs k.ticks n s.run checked accepted go is.run;
      own = record { all = searches-later k.config k.programs k.ticks n s.own.items is.own.all; processes = is.own.processes };
      programs = is.programs;
      each = is.each;
    })

-- what they have looked at, after one more tick
pub looked-next : (k l : Running) (s : Searches) (e : Entry) (reader : Option ℕ) (run : RunSearch) (n : ℕ) → l ≡ record k { ticks = k.ticks + 1 } → trace_of l ≡ e ∷ trace_of k
    → IsSearching k s → ((n : ℕ) → l.ticks ≡ n + 1 → trace l.config l.programs (n + 1) ≡ e ∷ trace l.config l.programs n → IsReader l.config l.programs n e reader)
    → FollowsOn s.run k.ticks e reader run → HaveLooked k n s → HaveLooked l n (record s { run = run })
looked-next k l s e reader run n next adds is reads follows looked =
    let ticks : l.ticks ≡ k.ticks + 1 = ap (λ (r : Running). r.ticks) next in
    let more : trace k.config k.programs (k.ticks + 1) ≡ e ∷ trace k.config k.programs k.ticks = ap (λ (r : Running). trace_of r) (sym next) ∙ adds in
    let read : IsReader k.config k.programs k.ticks e reader =
    subst (λ (r : Running). trace r.config r.programs (k.ticks + 1) ≡ e ∷ trace r.config r.programs k.ticks → IsReader r.config r.programs k.ticks e reader) next
    (reads k.ticks ticks) more in
    subst (λ (r : Running). HaveLooked r n (record s { run = run })) (sym next)
    (record { run = follows k.config k.programs n is.run more read looked.run; own = looked.own })

-- and after some in which nothing is looked at
pub looked-quiet : (k l : Running) (s : Searches) (more n : ℕ) → l ≡ record k { ticks = k.ticks + more } → HaveLooked k n s → HaveLooked l n s
looked-quiet k l s more n next looked =
    subst (λ (r : Running). HaveLooked r n s) (sym next)
    (record { run = run-later k.config k.programs k.ticks (k.ticks + more) n s.run (omega arith) looked.run; own = looked.own })

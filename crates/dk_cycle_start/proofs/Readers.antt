-- Who read the tick in the last tick of a kernel's run.
use Rattle.dk_cycle_start.proofs.Names.{ℕ, ◌≡◌, ◌+◌, ◌∙◌, Bool, true, false, List, [], length, Some, None, refl, sym, subst, arith, slice_index_or, list_any, or-true, Configuration, ThreadId, Entry, Has, Thread, family, is_main, threads, is_same, flat-has, list_any-has, same-self, has_row, is_there, Context, world, trace, HasRead, IsBehindRead, RunsOn, ShowsReads, quiet_caller, IsReader}

-- a thread that runs on has a row
row-running : (c : Configuration) (n : ℕ) (x : Thread) → x.stop ≡ None → has_row c n x ≡ true
row-running c n x running = rw running (or-true (is_main x))

pub found-running : (c : Configuration) (programs : List (List ℕ)) (n : ℕ) (x : ThreadId) → RunsOn c programs n x
    → list_any (is_there c (length (trace c programs n)) x) (threads c (trace c programs n)) ≡ true
found-running c programs n x on =
    let past = trace c programs n in
    let among : Has (threads c past) on.row = flat-has (λ p. family c p past) 0 (length c.processes) x.process on.row (omega arith) (let low = on.process in omega (arith, low)) on.among in
    let named : is_same x on.row.id ≡ true = rw on.name (same-self x) in
    list_any-has (is_there c (length past) x) (threads c past) on.row among (rw (named, row-running c (length past) on.row on.running) refl)

module _ (c : Configuration) (programs : List (List ℕ)) (n : ℕ) (e : Entry) (shows : ShowsReads c programs n e) where
  pub no-caller : quiet_caller e ≡ None → IsReader c programs n e None
  no-caller none = λ p r. let one = shows.only p r in let never : None ≡ Some one.0 = sym none ∙ one.1 in absurd (cc)

  -- the caller is the one that is seen
  only-one : (x : ThreadId) → quiet_caller e ≡ Some x → (HasRead c programs (n + 1) x → ⊥) → IsReader c programs n e None
  only-one x names not-read = λ p r.
      let one = shows.only p r in
      let both : Some one.0 ≡ Some x = sym one.1 ∙ names in
      let same : one.0 ≡ x = cc in
      not-read (subst (HasRead c programs (n + 1)) same one.2)

  -- it is there
  pub no-context : (x : ThreadId) (there : Bool) → quiet_caller e ≡ Some x
      → there ≡ list_any (is_there c (length (trace c programs (n + 1))) x) (threads c (trace c programs (n + 1))) → there ≡ false → ⊥
  no-context x there names is none =
      let found = found-running c programs (n + 1) x (shows.there x names) in
      let never : false ≡ true = sym none ∙ is ∙ found in
      cc

  pub not-behind : (x : ThreadId) (program : List ℕ) (z : Context) → quiet_caller e ≡ Some x → program ≡ slice_index_or programs x.process []
      → z ≡ ((world c programs (n + 1)).images x.process).contexts x.serial → (IsBehindRead program z → ⊥) → IsReader c programs n e None
  not-behind x program z names there is not-read =
      only-one x names (λ read. not-read (subst (IsBehindRead program) (sym is)
      (subst (λ code. IsBehindRead code (((world c programs (n + 1)).images x.process).contexts x.serial)) (sym there) read)))

  pub behind : (x : ThreadId) (program : List ℕ) (z : Context) → quiet_caller e ≡ Some x → program ≡ slice_index_or programs x.process []
      → z ≡ ((world c programs (n + 1)).images x.process).contexts x.serial → IsBehindRead program z → IsReader c programs n e (Some x.process)
  behind x program z names there is read =
      let on = shows.there x names in (
        on.process,
        shows.reads x names (subst (λ code. IsBehindRead code (((world c programs (n + 1)).images x.process).contexts x.serial)) there
            (subst (IsBehindRead program) is read)),
      )

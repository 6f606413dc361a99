-- The tables at tick 0 are the recount of no entries.
use Rattle.dk_recount.proofs.Names.{◌≡◌, ◌<◌, ◌*◌, ◌∙◌, ℕ, [], length, Option, Some, None, option_map, refl, ap, sym, arith, slice_get, range_with_len, length-map-range_with_len, length-map, length-replicate, slice_get-map, MAX_THREADS, Configuration, IsChecked, IsWithinLimits, IsAccepted, level_demand, rows-numbers, blocking, own_demand, remaining_demand, same-self, no-blocking, StartsWithBudgets, StartsWithDemand, table_at_start, AreThreads, book_of, AreLoans, Lockable, HasLevels, AreHolders, no_wishes, spares_of, AreWishes, IsSound, node_in, IsReady, tables_at_start, own_of, MainsAreSeated, PartsAreReleased, is-seated, map-same, has_row, first-at, nat_tests}
use Rattle.dk_mutex.specs.Rows.{row_of, rows_of}

main-node : (c : Configuration) (p : ℕ) → p < length c.processes → node_in (table_at_start c) (record { process = p; serial = 0 }) ≡ MAX_THREADS * p
main-node c p known = grind (arith, nat_tests, first-at, same-self)

no-levels : (c : Configuration) → HasLevels c [] (rows_of c)
no-levels c m row h x at held among same = go (slice_get (range_with_len 0 (length c.mutexes)) m) refl
  where
    go : (o : Option ℕ) → slice_get (range_with_len 0 (length c.mutexes)) m ≡ o → h.level ≡ x.level
    go None is =
        let none : None ≡ Some row = sym (slice_get-map (row_of c) (range_with_len 0 (length c.mutexes)) m ∙ ap (option_map (row_of c)) is) ∙ at in
        absurd (cc)
    go (Some i) is =
        let some : Some (row_of c i) ≡ Some row = sym (slice_get-map (row_of c) (range_with_len 0 (length c.mutexes)) m ∙ ap (option_map (row_of c)) is) ∙ at in
        let same' : row_of c i ≡ row = cc in
        let free : None ≡ Some h = ap (λ (r : Lockable). r.holder) same' ∙ held in
        absurd (cc)

-- what the crates below say of their tables at the start
pub record Starts (c : Configuration) : Type 0 where
  pub threads : AreThreads c 0 [] (table_at_start c)
  pub loans : AreLoans c 0 [] (book_of c)
  pub holders : AreHolders c [] (rows_of c)
  pub wishes : AreWishes (node_in (table_at_start c)) (spares_of c) c 0 [] (no_wishes c (spares_of c))
  pub own : StartsWithBudgets c
  pub remaining : StartsWithDemand c
  pub seats : MainsAreSeated
  pub parts : PartsAreReleased

pub start-ready : (c : Configuration) → IsChecked c → IsWithinLimits c → IsAccepted c → Starts c → IsReady c [] (tables_at_start c)
start-ready c checked limits accepted starts =
    let L = length c.levels in
    let jobs = starts.seats (node_in (table_at_start c)) (has_row c 0) c checked (main-node c) in
    record {
      ruled = record { checked = checked; limits = limits; accepted = accepted; audited = tt };
      recount = record {
        tick = refl;
        rows = starts.threads;
        loans = starts.loans;
        holders = starts.holders;
        own_levels = no-levels c;
        cells = record {
          windows = refl;
          own = map-same (own_of c) (own_demand c 0 []) 0 L (λ j h. sym (starts.own j (omega arith)));
          remaining = map-same (level_demand c) (remaining_demand c 0 []) 0 L (λ j h. sym (starts.remaining j (omega arith)));
          blocking = rows-numbers 0 c.levels 0 ∙ map-same (λ j. 0) (blocking c []) 0 L (λ j h. sym (no-blocking c j));
        };
        wishes = starts.wishes;
        jobs = jobs;
        kernel = starts.parts c;
        releases = refl;
        rights = refl;
      };
    }

pub start-sound : (c : Configuration) → IsChecked c → IsWithinLimits c → IsSound (tables_at_start c)
start-sound c checked limits = grind (arith, nat_tests, is-seated, length-map, length-map-range_with_len, length-replicate)

-- What comes next in a ledger that begins with what has been read.
use Rattle.dk_ledger.proofs.Names.{inl, inr, ◌≡◌, ◌∙◌, sym, ap, refl, subst, ◌<◌, ◌≤◌, ◌+◌, ℕ, suc, Bool, true, false, List, [], ◌∷◌, ◌++◌, length, arith, append_assoc, append-nil, map, length-append, add-zero, zero-add, ◌⊎◌, slice_get, flat_map, if◌then◌else◌, AllByRecursion, option_map_or, bytes_eq, HasEntry, TableRow, ProcessLine, LedgerLine, level_body, process_body, name_of, lines_of, line_body, entries_of, IsCut, last_of, Journal, IsReadable, IsLevelRow, IsProcessLine, size_in, Part, Item, IsPart, Fits, kept, IsApart, item_body, end_body, end_bodies, level_bodies, bodies_of, whole}
use Rattle.dk_ledger.proofs.OneCut.{is_cut}
use Rattle.dk_ledger.proofs.OneText.{one_level, one_process, one_line}
use Rattle.dk_ledger.proofs.Heads.{level_is_no_process, process_is_no_line, process_is_no_end, line_is_no_end}
use Rattle.dk_ledger.proofs.EntryLists.{all_back, get_front, get_seam, starts_behind, is_filled, stands_apart, IsReadableLine, lines_readable}
use Rattle.dk_ledger.proofs.NextItem.{names_fit}

-- The texts of xs and then X are those of ys and then Y, and X begins with no such text. Then xs goes on where ys ends.
module _ {A : Type 0} (f : A → List ℕ) (V : A → Type 0) (one : (a b : A) → V a → V b → f a ≡ f b → a ≡ b)
    (X : List (List ℕ)) (other : (b : A) (Z : List (List ℕ)) → V b → X ≡ f b ∷ Z → ⊥) where
  go_on : (xs ys : List A) (Y : List (List ℕ)) → AllByRecursion V xs → AllByRecursion V ys → map f xs ++ X ≡ map f ys ++ Y
      → (rest : List A) × (xs ≡ ys ++ rest) × (map f rest ++ X ≡ Y)
  go_on xs [] Y va vb e = (xs, refl, e)
  go_on [] (b ∷ ys) Y va vb e = absurd (other b _ vb.0 e)
  go_on (a ∷ xs) (b ∷ ys) Y va vb e =
      let first : f a ≡ f b = cc in
      let later : map f xs ++ X ≡ map f ys ++ Y = cc in
      let same = one a b va.0 vb.0 first in
      let rest = go_on xs ys Y va.1 vb.1 later in
      (rest.0, ap (λ z. z ∷ xs) same ∙ ap (λ zs. b ∷ zs) rest.1, rest.2)

module _ (X : List (List ℕ)) (other : (j : ℕ) (row : TableRow) (Z : List (List ℕ)) → X ≡ level_body j row ∷ Z → ⊥) where
  levels_go_on : (j : ℕ) (xs ys : List TableRow) (Y : List (List ℕ)) → j + length xs ≤ 12 → AllByRecursion IsLevelRow xs → AllByRecursion IsLevelRow ys
      → level_bodies j xs ++ X ≡ level_bodies j ys ++ Y
      → (rest : List TableRow) × (xs ≡ ys ++ rest) × (level_bodies (j + length ys) rest ++ X ≡ Y)
  levels_go_on j xs [] Y few va vb e = (xs, refl, ap (λ n. level_bodies n xs ++ X) (add-zero j) ∙ e)
  levels_go_on j [] (b ∷ ys) Y few va vb e = absurd (other j b _ e)
  levels_go_on j (a ∷ xs) (b ∷ ys) Y few va vb e =
      let first : level_body j a ≡ level_body j b = cc in
      let later : level_bodies (suc j) xs ++ X ≡ level_bodies (suc j) ys ++ Y = cc in
      let same = one_level j a b (omega arith) va.0 vb.0 first in
      let rest = levels_go_on (suc j) xs ys Y (omega arith) va.1 vb.1 later in
      let places : suc j + length ys ≡ j + suc (length ys) = omega arith in
      (rest.0, ap (λ z. z ∷ xs) same ∙ ap (λ zs. b ∷ zs) rest.1, ap (λ n. level_bodies n rest.0 ++ X) (sym places) ∙ rest.2)

-- an item that may come next is written on the next line, or all has been read
abbrev pub Goes : Journal → Part → List (List ℕ) → Type 0
Goes j p more = ((i : Item) × (rest : List (List ℕ)) × Fits (kept p) i × (more ≡ item_body (kept p) i ∷ rest)) ⊎ ((p ≡ whole j) × (more ≡ []))

regrouped : (a b c d m : List (List ℕ)) → (a ++ (b ++ (c ++ d))) ++ m ≡ a ++ (b ++ (c ++ (d ++ m)))
regrouped a b c d m = simp append_assoc

pub first_of : {A : Type 0} {x y : A} {xs ys : List A} → x ∷ xs ≡ y ∷ ys → x ≡ y
first_of e = cc

module _ (j : Journal) (p : Part) (is : IsReadable j) (part : IsPart p) (more : List (List ℕ)) where
  abbrev entry_bodies : List (List ℕ)
  entry_bodies = map (line_body p.heading) (lines_of p.entries)

  -- the lines of the entries of the whole
  abbrev all_entry_bodies : List (List ℕ)
  all_entry_bodies = map (line_body j.heading) (lines_of j.entries)

  abbrev end_line : List (List ℕ)
  end_line = end_body (length j.entries) ∷ []

  part_lines : AllByRecursion (IsReadableLine p.heading) (lines_of p.entries)
  part_lines =
      let cut = is_cut p.entries in
      lines_readable p.heading 0 (lines_of p.entries) cut.filled cut.in_turn (let short = part.short in let same = ap length cut.whole in omega (arith, short, same))
      (subst (AllByRecursion (HasEntry (size_in p.heading))) (sym cut.whole) part.entries)

  whole_lines : AllByRecursion (IsReadableLine j.heading) (lines_of j.entries)
  whole_lines =
      let cut = is_cut j.entries in
      lines_readable j.heading 0 (lines_of j.entries) cut.filled cut.in_turn (let short = is.short in let same = ap length cut.whole in omega (arith, short, same))
      (subst (AllByRecursion (HasEntry (size_in j.heading))) (sym cut.whole) is.entries)

  no_entries : lines_of p.entries ≡ [] → p.entries ≡ []
  no_entries none = sym (is_cut p.entries).whole ∙ ap (flat_map entries_of) none

  -- the next line is a level's
  next_level : (row : TableRow) (rows : List TableRow) (X : List (List ℕ)) → j.heading.levels ≡ p.heading.levels ++ row ∷ rows
      → level_bodies (length p.heading.levels) (row ∷ rows) ++ X ≡ map process_body p.heading.processes ++ (entry_bodies ++ (end_bodies p ++ more)) → Goes j p more
  next_level row rows X levels e = go p.heading.processes refl e
    where
      all : AllByRecursion IsLevelRow (p.heading.levels ++ row ∷ rows)
      all = subst (AllByRecursion IsLevelRow) levels is.heading.levels

      room : length p.heading.levels < 12
      room = let few = is.heading.few_levels in let same = ap length levels in let sum = length-append p.heading.levels (row ∷ rows) in omega (arith, few, same, sum)

      go : (ps : List ProcessLine) → p.heading.processes ≡ ps
          → level_bodies (length p.heading.levels) (row ∷ rows) ++ X ≡ map process_body ps ++ (entry_bodies ++ (end_bodies p ++ more)) → Goes j p more
      go (q ∷ qs) same text = absurd (level_is_no_process (length p.heading.levels) row q (first_of text))
      go [] same text =
          let none = part.processes_first same in
          let rest : entry_bodies ++ (end_bodies p ++ more) ≡ more =
          ap (λ es. map (line_body p.heading) (lines_of es) ++ (end_bodies p ++ more)) none.0 ∙ ap (λ (b : Bool). (if b then (end_body (length p.entries) ∷ []) else []) ++ more) none.1 in
          inl (Item.Level row, _, record { first = same; room = room; numbers = (all_back IsLevelRow p.heading.levels (row ∷ rows) all).0 }, sym rest ∙ sym text)

  module _ (levels : j.heading.levels ≡ p.heading.levels) where
    few : length p.heading.levels ≤ 12
    few = part.few_levels

    whole_processes : AllByRecursion (IsProcessLine (length p.heading.levels)) j.heading.processes
    whole_processes = subst (λ n. AllByRecursion (IsProcessLine n) j.heading.processes) (ap length levels) is.heading.processes

    -- the next line is a process's
    next_process : (q : ProcessLine) (qs : List ProcessLine) (X : List (List ℕ)) → j.heading.processes ≡ p.heading.processes ++ q ∷ qs
        → process_body q ∷ X ≡ entry_bodies ++ (end_bodies p ++ more) → Goes j p more
    next_process q qs X processes e = go (lines_of p.entries) p.ended refl refl part_lines e
      where
        all : AllByRecursion (IsProcessLine (length p.heading.levels)) (p.heading.processes ++ q ∷ qs)
        all = subst (AllByRecursion (IsProcessLine (length p.heading.levels))) processes whole_processes

        counted : length p.heading.processes < length j.heading.processes
        counted = let same = ap length processes in let sum = length-append p.heading.processes (q ∷ qs) in omega (arith, same, sum)

        named : (k : ℕ) → k < length p.heading.processes → bytes_eq (name_of p.heading k) q.name ≡ false
        named k below =
            let place = ap (λ ps. option_map_or (λ (line : ProcessLine). line.name) (slice_get ps k) []) processes ∙ ap (λ o. option_map_or (λ (line : ProcessLine). line.name) o []) (get_front p.heading.processes (q ∷ qs) k below) in
            let last = ap (λ ps. option_map_or (λ (line : ProcessLine). line.name) (slice_get ps (length p.heading.processes)) []) processes ∙ ap (λ o. option_map_or (λ (line : ProcessLine). line.name) o []) (get_seam p.heading.processes q qs) in
            ap (λ n. bytes_eq n q.name) (sym place) ∙ ap (bytes_eq (name_of j.heading k)) (sym last) ∙ is.heading.own_names k (length p.heading.processes) below counted

        fits : p.entries ≡ [] → p.ended ≡ false → Fits (kept p) (Item.Process q)
        fits none unended =
            record {
              first = ap length none;
              unfinished = unended;
              levels = let some = is.heading.some_levels in let same = ap length levels in omega (arith, some, same);
              room = let small = is.heading.few_processes in omega (arith, small, counted);
              readable = (all_back (IsProcessLine (length p.heading.levels)) p.heading.processes (q ∷ qs) all).0;
              new = named;
            }

        go : (ls : List LedgerLine) (b : Bool) → lines_of p.entries ≡ ls → p.ended ≡ b → AllByRecursion (IsReadableLine p.heading) ls
            → process_body q ∷ X ≡ map (line_body p.heading) ls ++ ((if b then (end_body (length p.entries) ∷ []) else []) ++ more) → Goes j p more
        go (l ∷ ls) b same unended good text = let short = good.0.short in absurd (process_is_no_line q p.heading l (omega (arith, short)) (first_of text))
        go [] true same unended good text = absurd (process_is_no_end q (length p.entries) (first_of text))
        go [] false same unended good text = inl (Item.Process q, X, fits (no_entries same) unended, sym text)

    module _ (processes : j.heading.processes ≡ p.heading.processes) where
      heading : j.heading ≡ p.heading
      heading = ap (λ ls. record { levels = ls; processes = j.heading.processes }) levels ∙ ap (λ ps. record { levels = p.heading.levels; processes = ps }) processes

      lines_here : AllByRecursion (IsReadableLine p.heading) (lines_of j.entries)
      lines_here = subst (λ h. AllByRecursion (IsReadableLine h) (lines_of j.entries)) heading whole_lines

      some_processes : 1 ≤ length p.heading.processes
      some_processes = let some = is.heading.some_processes in let same = ap length processes in omega (arith, some, same)

      -- the next line is one of entries
      next_ticks : (m : LedgerLine) (ms : List LedgerLine) (X : List (List ℕ)) → lines_of j.entries ≡ lines_of p.entries ++ m ∷ ms
          → line_body p.heading m ∷ X ≡ end_bodies p ++ more → Goes j p more
      next_ticks m ms X lines e = go p.ended refl e
        where
          cut : IsCut j.entries (lines_of p.entries ++ m ∷ ms)
          cut = subst (IsCut j.entries) lines (is_cut j.entries)

          good : IsReadableLine p.heading m
          good = (all_back (IsReadableLine p.heading) (lines_of p.entries) (m ∷ ms) (subst (AllByRecursion (IsReadableLine p.heading)) lines lines_here)).0

          start : m.start ≡ length p.entries
          start = let behind = starts_behind 0 (lines_of p.entries) m ms cut.filled cut.in_turn in let same = ap length (is_cut p.entries).whole in omega (arith, behind, same)

          fits : p.ended ≡ false → Fits (kept p) (Item.Ticks m)
          fits unended =
              record {
                unfinished = unended;
                processes = some_processes;
                start = start;
                count = is_filled (lines_of p.entries) m ms cut.filled;
                short = good.short;
                label = good.label;
                event = good.event;
                apart = subst (λ last. IsApart last m) (sym part.last) (stands_apart (lines_of p.entries) m ms cut.apart);
              }

          go : (b : Bool) → p.ended ≡ b → line_body p.heading m ∷ X ≡ (if b then (end_body (length p.entries) ∷ []) else []) ++ more → Goes j p more
          go true unended text = let short = good.short in absurd (line_is_no_end p.heading m (length p.entries) (omega (arith, short)) (first_of text))
          go false unended text = inl (Item.Ticks m, X, fits unended, sym text)

      -- all entries have been read
      no_more_ticks : lines_of j.entries ≡ lines_of p.entries → end_line ≡ end_bodies p ++ more → Goes j p more
      no_more_ticks lines e = go p.ended refl e
        where
          entries : j.entries ≡ p.entries
          entries = sym (is_cut j.entries).whole ∙ ap (flat_map entries_of) lines ∙ (is_cut p.entries).whole

          go : (b : Bool) → p.ended ≡ b → end_line ≡ (if b then (end_body (length p.entries) ∷ []) else []) ++ more → Goes j p more
          go true unended text =
              let none : more ≡ [] = cc in
              inr (
                ap (λ h. record { heading = h; entries = p.entries; last = p.last; ended = p.ended }) (sym heading)
                    ∙ ap (λ es. record { heading = j.heading; entries = es; last = p.last; ended = p.ended }) (sym entries)
                    ∙ ap (λ l. record { heading = j.heading; entries = j.entries; last = l; ended = p.ended }) (part.last ∙ ap (λ es. last_of (lines_of es)) (sym entries))
                    ∙ ap (λ b. record { heading = j.heading; entries = j.entries; last = last_of (lines_of j.entries); ended = b }) unended,
                none,
              )
          go false unended text =
              inl (Item.End, [], record { unfinished = unended; processes = some_processes }, sym text ∙ ap (λ es. end_body (length es) ∷ []) entries)

      from_lines : all_entry_bodies ++ end_line ≡ entry_bodies ++ (end_bodies p ++ more) → Goes j p more
      from_lines e = go rest.0 rest.1 rest.2
        where
          one : (a b : LedgerLine) → IsReadableLine p.heading a → IsReadableLine p.heading b → line_body p.heading a ≡ line_body p.heading b → a ≡ b
          one = one_line p.heading few (names_fit (length p.heading.levels) p.heading.processes part.processes) part.own_names

          other : (l : LedgerLine) (Z : List (List ℕ)) → IsReadableLine p.heading l → end_line ≡ line_body p.heading l ∷ Z → ⊥
          other l Z good text = let short = good.short in line_is_no_end p.heading l (length j.entries) (omega (arith, short)) (sym (first_of text))

          rest : (ms : List LedgerLine) × (lines_of j.entries ≡ lines_of p.entries ++ ms) × (map (line_body p.heading) ms ++ end_line ≡ end_bodies p ++ more)
          rest =
              go_on (line_body p.heading) (IsReadableLine p.heading) one end_line other (lines_of j.entries) (lines_of p.entries) (end_bodies p ++ more) lines_here part_lines
              (ap (λ h. map (line_body h) (lines_of j.entries) ++ end_line) (sym heading) ∙ e)

          go : (ms : List LedgerLine) → lines_of j.entries ≡ lines_of p.entries ++ ms → map (line_body p.heading) ms ++ end_line ≡ end_bodies p ++ more → Goes j p more
          go [] lines text = no_more_ticks (lines ∙ append-nil (lines_of p.entries)) text
          go (m ∷ ms) lines text = next_ticks m ms (map (line_body p.heading) ms ++ end_line) lines text

    from_processes : map process_body j.heading.processes ++ (all_entry_bodies ++ end_line) ≡ map process_body p.heading.processes ++ (entry_bodies ++ (end_bodies p ++ more)) → Goes j p more
    from_processes e = go rest.0 rest.1 rest.2
      where
        other : (q : ProcessLine) (Z : List (List ℕ)) → IsProcessLine (length p.heading.levels) q → all_entry_bodies ++ end_line ≡ process_body q ∷ Z → ⊥
        other q Z good text = heads (lines_of j.entries) whole_lines text
          where
            heads : (ls : List LedgerLine) → AllByRecursion (IsReadableLine j.heading) ls → map (line_body j.heading) ls ++ end_line ≡ process_body q ∷ Z → ⊥
            heads [] all same = process_is_no_end q (length j.entries) (sym (first_of same))
            heads (l ∷ ls) all same = let short = all.0.short in process_is_no_line q j.heading l (omega (arith, short)) (sym (first_of same))

        rest : (qs : List ProcessLine) × (j.heading.processes ≡ p.heading.processes ++ qs) × (map process_body qs ++ (all_entry_bodies ++ end_line) ≡ entry_bodies ++ (end_bodies p ++ more))
        rest =
            go_on process_body (IsProcessLine (length p.heading.levels)) (λ a b. one_process (length p.heading.levels) a b few) (all_entry_bodies ++ end_line) other
            j.heading.processes p.heading.processes (entry_bodies ++ (end_bodies p ++ more)) whole_processes part.processes e

        go : (qs : List ProcessLine) → j.heading.processes ≡ p.heading.processes ++ qs → map process_body qs ++ (all_entry_bodies ++ end_line) ≡ entry_bodies ++ (end_bodies p ++ more) → Goes j p more
        go [] processes text = from_lines (processes ∙ append-nil p.heading.processes) text
        go (q ∷ qs) processes text = next_process q qs (map process_body qs ++ (all_entry_bodies ++ end_line)) processes text

  pub continues : bodies_of (whole j) ≡ bodies_of p ++ more → Goes j p more
  continues e = go rest.0 rest.1 (ap (λ n. level_bodies n rest.0 ++ X) (sym (zero-add (length p.heading.levels))) ∙ rest.2)
    where
      X : List (List ℕ)
      X = map process_body j.heading.processes ++ (all_entry_bodies ++ end_line)

      Y : List (List ℕ)
      Y = map process_body p.heading.processes ++ (entry_bodies ++ (end_bodies p ++ more))

      other : (k : ℕ) (row : TableRow) (Z : List (List ℕ)) → X ≡ level_body k row ∷ Z → ⊥
      other k row Z text = heads j.heading.processes is.heading.some_processes text
        where
          heads : (qs : List ProcessLine) → 1 ≤ length qs → map process_body qs ++ (all_entry_bodies ++ end_line) ≡ level_body k row ∷ Z → ⊥
          heads [] some same = absurd (omega arith)
          heads (q ∷ qs) some same = level_is_no_process k row q (sym (first_of same))

      rest : (rows : List TableRow) × (j.heading.levels ≡ p.heading.levels ++ rows) × (level_bodies (0 + length p.heading.levels) rows ++ X ≡ Y)
      rest =
          levels_go_on X other 0 j.heading.levels p.heading.levels Y (let small = is.heading.few_levels in omega (arith, small)) is.heading.levels part.levels
          (e ∙ regrouped (level_bodies 0 p.heading.levels) (map process_body p.heading.processes) entry_bodies (end_bodies p) more)

      go : (rows : List TableRow) → j.heading.levels ≡ p.heading.levels ++ rows → level_bodies (length p.heading.levels) rows ++ X ≡ Y → Goes j p more
      go [] levels text = from_processes (levels ∙ append-nil p.heading.levels) text
      go (row ∷ rows) levels text = next_level row rows X levels text

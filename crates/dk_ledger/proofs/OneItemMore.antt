-- With one item more, what has been read is again what may have been read, and its line comes last.
use Rattle.dk_ledger.proofs.Names.{◌≡◌, ◌∙◌, sym, ap, refl, subst, ◌<◌, ◌≤◌, ◌+◌, ℕ, suc, Bool, true, false, List, [], ◌∷◌, ◌++◌, length, arith, append_assoc, append-nil, zero-add, map, length-append, inl, inr, ◌-◌, codes, Some, None, flat_map, replicate, if◌then◌else◌, AllByRecursion, option_map_or, bytes_eq, cases_order, flat_map-append, map-append, nil_from_length, TableRow, Entry, HasEntry, HasLabel, HasOwnEvent, ProcessLine, LedgerLine, Heading, level_body, process_body, name_of, line_body, lines_of, entries_of, IsCut, last_of, Journal, IsReadable, IsLevelRow, IsProcessLine, HaveOwnNames, size_in, Part, Item, IsPart, IsKept, Fits, TicksFit, IsApart, item_body, end_body, level_bodies, bodies_of, kept, keeping, with_item, with_level, with_process, whole, nat_tests}
use Rattle.dk_ledger.proofs.OneCut.{is_cut, only_cut}
use Rattle.dk_ledger.proofs.EntryLists.{all_both, all_same, get_front, get_seam, filled_more, in_turn_more, apart_more, length-entries}

levels_more : (j : ℕ) (rows : List TableRow) (row : TableRow) → level_bodies j (rows ++ row ∷ []) ≡ level_bodies j rows ++ level_body (j + length rows) row ∷ []
levels_more j [] row = grind (arith, nat_tests)
levels_more j (r ∷ rows) row = grind (arith, nat_tests, levels_more (suc j) rows)

last_more : (ls : List LedgerLine) (l : LedgerLine) → last_of (ls ++ l ∷ []) ≡ Some l
last_more [] l = refl
last_more (k ∷ []) l = refl
last_more (k ∷ m ∷ ls) l = last_more (m ∷ ls) l

-- the line stands alone behind those of the entries so far
lines_more : (p : Part) (l : LedgerLine) → IsPart p → TicksFit (kept p) l → lines_of (p.entries ++ entries_of l) ≡ lines_of p.entries ++ l ∷ []
lines_more p l part fits = sym (only_cut (p.entries ++ entries_of l) (lines_of p.entries ++ l ∷ []) cut)
  where
    before : IsCut p.entries (lines_of p.entries)
    before = is_cut p.entries

    begins : l.start ≡ 0 + length (flat_map entries_of (lines_of p.entries))
    begins = let start = fits.start in let same = ap length before.whole in omega (arith, start, same)

    cut : IsCut (p.entries ++ entries_of l) (lines_of p.entries ++ l ∷ [])
    cut =
        record {
          whole = flat_map-append entries_of (lines_of p.entries) (l ∷ []) ∙ ap (λ es. es ++ (entries_of l ++ [])) before.whole ∙ ap (λ es. p.entries ++ es) (append-nil (entries_of l));
          filled = filled_more (lines_of p.entries) l before.filled fits.count;
          in_turn = in_turn_more 0 (lines_of p.entries) l before.filled before.in_turn begins;
          apart = apart_more (lines_of p.entries) l before.apart (subst (λ last. IsApart last l) part.last fits.apart);
        }

line_entries : (h : Heading) (l : LedgerLine) → HasLabel (size_in h) l.label → HasOwnEvent (size_in h) l.label l.event → AllByRecursion (HasEntry (size_in h)) (entries_of l)
line_entries h l label event =
    all_both (HasEntry (size_in h)) (replicate (l.count - 1) (record { label = l.label; event = None })) (record { label = l.label; event = l.event } ∷ [])
    (all_same (HasEntry (size_in h)) (record { label = l.label; event = None }) (record { label = label; event = tt }) (l.count - 1)) (record { label = label; event = event }, tt)

-- what the names of a header are told apart by
own_more : (h : Heading) (q : ProcessLine) → HaveOwnNames h → ((k : ℕ) → k < length h.processes → bytes_eq (name_of h k) q.name ≡ false) → HaveOwnNames (with_process h q)
own_more h q own new i k less below = elim (cases_order k (length h.processes)) as (λ _. bytes_eq (name_of (with_process h q) i) (name_of (with_process h q) k) ≡ false) [
  | inl e ↦ at_last e
  | inr other ↦ elim other as (λ _. bytes_eq (name_of (with_process h q) i) (name_of (with_process h q) k) ≡ false) [
    | inl l ↦ before_last l
    | inr past ↦ absurd (let sum = length-append h.processes (q ∷ []) in omega (arith, past, below, sum))
  ]
]
  where
    name : (n : ℕ) → n < length h.processes → name_of (with_process h q) n ≡ name_of h n
    name n l = ap (λ o. option_map_or (λ (line : ProcessLine). line.name) o []) (get_front h.processes (q ∷ []) n l)

    last : name_of (with_process h q) (length h.processes) ≡ q.name
    last = ap (λ o. option_map_or (λ (line : ProcessLine). line.name) o []) (get_seam h.processes q [])

    before_last : k < length h.processes → bytes_eq (name_of (with_process h q) i) (name_of (with_process h q) k) ≡ false
    before_last l = ap (λ n. bytes_eq n (name_of (with_process h q) k)) (name i (omega (arith, less, l))) ∙ ap (bytes_eq (name_of h i)) (name k l) ∙ own i k less l

    at_last : k ≡ length h.processes → bytes_eq (name_of (with_process h q) i) (name_of (with_process h q) k) ≡ false
    at_last e =
        let there : i < length h.processes = omega (arith, less, e) in
        ap (λ n. bytes_eq n (name_of (with_process h q) k)) (name i there) ∙ ap (λ n. bytes_eq (name_of h i) (name_of (with_process h q) n)) e ∙ ap (bytes_eq (name_of h i)) last ∙ new i there

nothing_there : {A : Type 0} (xs : List A) (x : A) → xs ++ x ∷ [] ≡ [] → ⊥
nothing_there [] x e = cc
nothing_there (y ∷ ys) x e = cc

no_entries : (h : Heading) (es : List Entry) (b : Bool) (end : List ℕ) → es ≡ [] → b ≡ false → map (line_body h) (lines_of es) ++ (if b then (end ∷ []) else []) ≡ []
no_entries h es b end none unended = grind (arith, nat_tests)

no_rest : (h : Heading) (ps : List ProcessLine) (es : List Entry) (b : Bool) (end : List ℕ) → ps ≡ [] → es ≡ [] → b ≡ false
    → map process_body ps ++ (map (line_body h) (lines_of es) ++ (if b then (end ∷ []) else [])) ≡ []
no_rest h ps es b end none empty unended = grind (arith, nat_tests)

behind_two : (a b x : List (List ℕ)) → a ++ (b ++ x) ≡ (a ++ (b ++ [])) ++ x
behind_two a b x = sym (append_assoc a b x) ∙ ap (λ t. (a ++ t) ++ x) (sym (append-nil b))

behind_three : (a b c x : List (List ℕ)) → a ++ (b ++ (c ++ x)) ≡ (a ++ (b ++ (c ++ []))) ++ x
behind_three a b c x =
    ap (λ t. a ++ t) (sym (append_assoc b c x)) ∙ sym (append_assoc a (b ++ c) x) ∙ ap (λ t. (a ++ (b ++ t)) ++ x) (sym (append-nil c))

module _ (p : Part) (part : IsPart p) where
  pub is_part : (i : Item) → Fits (kept p) i → IsPart (with_item p i)
  is_part (Item.Level row) fits =
      let none = part.processes_first fits.first in
      record {
        few_levels = let room = fits.room in let sum = length-append p.heading.levels (row ∷ []) in omega (arith, room, sum);
        levels = all_both IsLevelRow p.heading.levels (row ∷ []) part.levels (fits.numbers, tt);
        few_processes = part.few_processes;
        processes = subst (AllByRecursion (IsProcessLine (length (p.heading.levels ++ row ∷ [])))) (sym fits.first) tt;
        own_names = λ i k less below. absurd (let count = ap length fits.first in omega (arith, below, count));
        entries = subst (AllByRecursion (HasEntry (size_in (with_level p.heading row)))) (sym none.0) tt;
        short = part.short;
        last = part.last;
        levels_first = λ e. fits.first;
        processes_first = part.processes_first;
      }
  is_part (Item.Process q) fits =
      record {
        few_levels = part.few_levels;
        levels = part.levels;
        few_processes = let room = fits.room in let sum = length-append p.heading.processes (q ∷ []) in omega (arith, room, sum);
        processes = all_both (IsProcessLine (length p.heading.levels)) p.heading.processes (q ∷ []) part.processes (fits.readable, tt);
        own_names = own_more p.heading q part.own_names fits.new;
        entries = subst (AllByRecursion (HasEntry (size_in (with_process p.heading q)))) (sym (nil_from_length p.entries fits.first)) tt;
        short = part.short;
        last = part.last;
        levels_first = λ e. absurd (let some = fits.levels in let count = ap length e in omega (arith, some, count));
        processes_first = λ e. absurd (nothing_there p.heading.processes q e);
      }
  is_part (Item.Ticks l) fits =
      record {
        few_levels = part.few_levels;
        levels = part.levels;
        few_processes = part.few_processes;
        processes = part.processes;
        own_names = part.own_names;
        entries = all_both (HasEntry (size_in p.heading)) p.entries (entries_of l) part.entries (line_entries p.heading l fits.label fits.event);
        short =
            let sum = length-append p.entries (entries_of l) in
            let count = length-entries l fits.count in
            let start = fits.start in
            let short = fits.short in
            omega (arith, sum, count, start, short);
        last = sym (ap last_of (lines_more p l part fits) ∙ last_more (lines_of p.entries) l);
        levels_first = part.levels_first;
        processes_first = λ e. absurd (let some = fits.processes in let count = ap length e in omega (arith, some, count));
      }
  is_part Item.End fits =
      record {
        few_levels = part.few_levels;
        levels = part.levels;
        few_processes = part.few_processes;
        processes = part.processes;
        own_names = part.own_names;
        entries = part.entries;
        short = part.short;
        last = part.last;
        levels_first = part.levels_first;
        processes_first = λ e. absurd (let some = fits.processes in let count = ap length e in omega (arith, some, count));
      }

  abbrev levels : List (List ℕ)
  levels = level_bodies 0 p.heading.levels

  abbrev processes : List (List ℕ)
  processes = map process_body p.heading.processes

  abbrev entries : List (List ℕ)
  entries = map (line_body p.heading) (lines_of p.entries)

  pub bodies_more : (i : Item) → Fits (kept p) i → bodies_of (with_item p i) ≡ bodies_of p ++ item_body (kept p) i ∷ []
  bodies_more (Item.Level row) fits =
      let none = part.processes_first fits.first in
      let body = level_body (length p.heading.levels) row in
      let more : level_bodies 0 (p.heading.levels ++ row ∷ []) ≡ levels ++ body ∷ [] =
      levels_more 0 p.heading.levels row ∙ ap (λ n. levels ++ level_body n row ∷ []) (zero-add (length p.heading.levels)) in
      ap (λ t. level_bodies 0 (p.heading.levels ++ row ∷ []) ++ t) (no_rest (with_level p.heading row) p.heading.processes p.entries p.ended (end_body (length p.entries)) fits.first none.0 none.1)
      ∙ append-nil (level_bodies 0 (p.heading.levels ++ row ∷ [])) ∙ more
      ∙ ap (λ t. t ++ body ∷ []) (sym (append-nil levels))
      ∙ ap (λ t. (levels ++ t) ++ body ∷ []) (sym (no_rest p.heading p.heading.processes p.entries p.ended (end_body (length p.entries)) fits.first none.0 none.1))
  bodies_more (Item.Process q) fits =
      let body = process_body q in
      ap (λ t. levels ++ (map process_body (p.heading.processes ++ q ∷ []) ++ t)) (no_entries (with_process p.heading q) p.entries p.ended (end_body (length p.entries)) (nil_from_length p.entries fits.first) fits.unfinished)
      ∙ ap (λ t. levels ++ t) (append-nil (map process_body (p.heading.processes ++ q ∷ [])) ∙ map-append process_body p.heading.processes (q ∷ []))
      ∙ behind_two levels processes (body ∷ [])
      ∙ ap (λ t. (levels ++ (processes ++ t)) ++ body ∷ []) (sym (no_entries p.heading p.entries p.ended (end_body (length p.entries)) (nil_from_length p.entries fits.first) fits.unfinished))
  bodies_more (Item.Ticks l) fits =
      let body = line_body p.heading l in
      ap (λ b. levels ++ (processes ++ (map (line_body p.heading) (lines_of (p.entries ++ entries_of l)) ++ (if b then (end_body (length (p.entries ++ entries_of l)) ∷ []) else [])))) fits.unfinished
      ∙ ap (λ ls. levels ++ (processes ++ (map (line_body p.heading) ls ++ []))) (lines_more p l part fits)
      ∙ ap (λ t. levels ++ (processes ++ t)) (append-nil (map (line_body p.heading) (lines_of p.entries ++ l ∷ [])) ∙ map-append (line_body p.heading) (lines_of p.entries) (l ∷ []))
      ∙ behind_three levels processes entries (body ∷ [])
      ∙ ap (λ b. (levels ++ (processes ++ (entries ++ (if b then (end_body (length p.entries) ∷ []) else [])))) ++ body ∷ []) (sym fits.unfinished)
  bodies_more Item.End fits =
      behind_three levels processes entries (end_body (length p.entries) ∷ [])
      ∙ ap (λ b. (levels ++ (processes ++ (entries ++ (if b then (end_body (length p.entries) ∷ []) else [])))) ++ end_body (length p.entries) ∷ []) (sym fits.unfinished)

  -- what is kept of the item and all before it
  pub kept_more : (i : Item) → Fits (kept p) i → kept (with_item p i) ≡ keeping (kept p) i
  kept_more (Item.Level row) fits = refl
  kept_more (Item.Process q) fits = refl
  kept_more (Item.Ticks l) fits =
      let sum : length (p.entries ++ entries_of l) ≡ length p.entries + l.count =
      length-append p.entries (entries_of l) ∙ ap (λ n. length p.entries + n) (length-entries l fits.count) in
      ap (λ n. record { heading = p.heading; ticks = n; last = Some l; ended = p.ended }) sum
  kept_more Item.End fits = refl

  pub is_kept : IsKept (kept p)
  is_kept = grind (arith, nat_tests)

-- the least items that a ledger can go on with
abbrev some_row : TableRow
some_row = record { period = 0; demand = 0; blocking = 0; spare = 0 }

abbrev some_process : ProcessLine
some_process = record { name = codes "a"; level = 0; budget = 0 }

abbrev GoesOn : Part → Type 0
GoesOn p = (j : Journal) × IsReadable j × (more : List (List ℕ)) × (bodies_of (whole j) ≡ bodies_of p ++ more)

module _ (p : Part) (part : IsPart p) where
  pub as_journal : 1 ≤ length p.heading.processes → IsReadable (record { heading = p.heading; entries = p.entries })
  as_journal some =
      record {
        heading =
            record {
              some_levels = some_level p.heading.levels refl;
              few_levels = part.few_levels;
              levels = part.levels;
              some_processes = some;
              few_processes = part.few_processes;
              processes = part.processes;
              own_names = part.own_names;
            };
        entries = part.entries;
        short = part.short;
      }
    where
      some_level : (ls : List TableRow) → p.heading.levels ≡ ls → 1 ≤ length p.heading.levels
      some_level [] e = absurd (let count = ap length (part.levels_first e) in omega (arith, some, count))
      some_level (l ∷ ls) e = let count = ap length e in omega (arith, count)

  -- a ledger may end after any line behind the processes
  from_processes : 1 ≤ length p.heading.processes → GoesOn p
  from_processes some = go p.ended refl
    where
      go : (b : Bool) → p.ended ≡ b → GoesOn p
      go true e = (
        record { heading = p.heading; entries = p.entries },
        as_journal some,
        [],
        ap (λ b. bodies_of (record { heading = p.heading; entries = p.entries; last = last_of (lines_of p.entries); ended = b })) (sym e) ∙ sym (append-nil (bodies_of p)),
      )
      go false e =
          (record { heading = p.heading; entries = p.entries }, as_journal some, end_body (length p.entries) ∷ [], bodies_more p part Item.End (record { unfinished = e; processes = some }))

further : (p : Part) (i : Item) → IsPart p → Fits (kept p) i → GoesOn (with_item p i) → GoesOn p
further p i part fits next =
    (next.0, next.1, item_body (kept p) i ∷ next.2, next.3 ∙ ap (λ t. t ++ next.2) (bodies_more p part i fits) ∙ append_assoc (bodies_of p) (item_body (kept p) i ∷ []) next.2)

from_levels : (p : Part) → IsPart p → 1 ≤ length p.heading.levels → p.heading.processes ≡ [] → GoesOn p
from_levels p part some none =
    let first = part.processes_first none in
    let count = ap length none in
    let fits : Fits (kept p) (Item.Process some_process) =
    record {
      first = ap length first.0;
      unfinished = first.1;
      levels = some;
      room = omega (arith, count);
      readable = record { name = refl; level = some; budget = omega arith };
      new = λ k below. absurd (omega (arith, below, count));
    } in
    let next : Part = with_item p (Item.Process some_process) in
    further p (Item.Process some_process) part fits (from_processes next (is_part p part (Item.Process some_process) fits) (let sum = length-append p.heading.processes (some_process ∷ []) in omega (arith, sum)))

-- whatever may have been read is the beginning of a ledger
pub goes_on : (p : Part) → IsPart p → GoesOn p
goes_on p part = go p.heading.levels p.heading.processes refl refl
  where
    go : (ls : List TableRow) (ps : List ProcessLine) → p.heading.levels ≡ ls → p.heading.processes ≡ ps → GoesOn p
    go ls (q ∷ qs) levels processes = from_processes p part (let count = ap length processes in omega (arith, count))
    go (l ∷ ls) [] levels processes = from_levels p part (let count = ap length levels in omega (arith, count)) processes
    go [] [] levels processes =
        let count = ap length levels in
        let fits : Fits (kept p) (Item.Level some_row) =
        record { first = processes; room = omega (arith, count); numbers = record { period = omega arith; demand = omega arith; blocking = omega arith; spare = omega arith } } in
        let next : Part = with_item p (Item.Level some_row) in
        further p (Item.Level some_row) part fits
        (from_levels next (is_part p part (Item.Level some_row) fits) (let sum = length-append p.heading.levels (some_row ∷ []) in omega (arith, sum)) processes)

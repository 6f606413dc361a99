-- A document with nothing wrong has needs that are fit.
use Rattle.std.proofs.Common.{ℕ, suc, ◌≡◌, ◌∙◌, Bool, true, false, List, [], ◌∷◌, ◌++◌, map, flat_map, refl, ap, sym, subst, arith}
use Rattle.std.specs.Prelude.{◌≢◌, codes, Option, Some, None, option_map, option_to_list, Result, Ok, Err, IfOk, All, if◌then◌else◌}
use Rattle.std.specs.List.{AllByRecursion, list_all}
use Rattle.std.specs.Option.{option_map_or}
use Rattle.std.proofs.lemmas.Bool.{and_parts}
use Rattle.std.proofs.lemmas.Bool.Decides.{nat_tests}
use Rattle.std.proofs.lemmas.List.{length-map}
use Rattle.std.proofs.lemmas.List.Elements.{All-from_recursion}
use Rattle.toml.specs.Data.{Data, Members, Items, as_array, as_str, as_table, get_member}
use Rattle.dk_config.specs.Rules.{is_name}
use Rattle.dk_loader.proofs.Rows.{elements-as_array}
use Rattle.dk_loader.specs.Look.{elements, items_list, rows_at}
use Rattle.dk_loader.specs.Reading.{text_at, text_of}
use Rattle.dk_needs.specs.declared.fault.Key.{Key}
use Rattle.dk_needs.specs.declared.fault.Key.TheVariants as key
use Rattle.dk_needs.specs.declared.fault.Fault.{Fault}
use Rattle.dk_needs.specs.declared.fault.NeedsError.{NeedsError}
use Rattle.dk_needs.specs.declared.fault.NeedsError.TheVariants as error
use Rattle.dk_needs.specs.declared.fault.Place.{Place}
use Rattle.dk_needs.specs.declared.fault.Section.{Section}
use Rattle.dk_needs.specs.declared.fault.Why.{Why}
use Rattle.dk_needs.specs.declared.keys.Form.{Form}
use Rattle.dk_needs.specs.declared.keys.Form.TheVariants as form
use Rattle.dk_needs.specs.declared.needs.Need.{Need}
use Rattle.dk_needs.specs.Fit.{AreNames, HasNames, IsFit}
use Rattle.dk_needs.specs.Fitting.{array_fault, is_id, is_name_text, names_fault, text_fault, value_fault}
use Rattle.dk_needs.specs.Keys.{form_of, key_name, needed_keys, other_keys, section_key, sections, shape_of, top_keys}
use Rattle.dk_needs.specs.Reading.{again_faults, answer_for, answer_of, names_at, need_in, need_row, needs_of, reading_of, refusal, section_needs, what_of}
use Rattle.dk_needs.specs.Shape.{fault_at, found_fault, from_row, key_fault, keys_faults, place_of, row_faults, section_faults, shape_faults, table_faults}
use Rattle.dk_needs.specs.Wanted.{Wanted}

no-front : {A : Type 0} (xs ys : List A) → xs ++ ys ≡ [] → xs ≡ []
no-front [] ys none = refl
no-front (x ∷ xs) ys none = cc

no-back : {A : Type 0} (xs ys : List A) → xs ++ ys ≡ [] → ys ≡ []
no-back [] ys none = none
no-back (x ∷ xs) ys none = cc

-- nothing is wrong at any of these keys
HasAll : Option Place → Members → List Key → Type 0
HasAll p ms [] = Unit {0}
HasAll p ms (k ∷ ks) = (key_fault p true ms k ≡ None) × HasAll p ms ks

no-fault : (f : Option Fault) → option_to_list f ≡ [] → f ≡ None
no-fault None none = refl
no-fault (Some f) none = cc

has-all : (p : Option Place) (ms : Members) (ks : List Key) → keys_faults p true ms ks ≡ [] → HasAll p ms ks
unfolding HasAll
has-all p ms [] none = tt
has-all p ms (k ∷ ks) none =
    let rest = flat_map (λ j. option_to_list (key_fault p true ms j)) ks in
    (no-fault (key_fault p true ms k) (no-front (option_to_list (key_fault p true ms k)) rest none), has-all p ms ks (no-back (option_to_list (key_fault p true ms k)) rest none))

-- a value that is needed is there, and it is one that the key takes
Given : Key → Option Data → Type 0
Given k o = (d : Data) × (o ≡ Some d) × (value_fault (shape_of k) d ≡ None)

given : (p : Option Place) (k : Key) (o : Option Data) → found_fault p true k o ≡ None → Given k o
unfolding Given
given p k None none = cc
given p k (Some d) none = (d, refl, fits (value_fault (shape_of k) d) none)
  where
    fits : (w : Option Why) → option_map (fault_at p k) w ≡ None → w ≡ None
    fits None is = refl
    fits (Some w) is = cc

passed : (passes : List ℕ → Bool) (t : Option (List ℕ)) (w k : Why)
    → option_map_or (λ t. if passes t then None else Some w) t (Some k) ≡ None → passes (option_map_or (λ t. t) t []) ≡ true
passed passes None w k none = cc
passed passes (Some t) w k none = inside (passes t) none
  where
    inside : (b : Bool) → (if b then None else Some w) ≡ None → b ≡ true
    inside true is = refl
    inside false is = cc

-- a text that fits
text-given : (k : Key) (passes : List ℕ → Bool) (ms : Members) → ((d : Data) → value_fault (shape_of k) d ≡ text_fault passes d)
    → Given k (get_member (key_name k) ms) → passes (text_at (key_name k) ms) ≡ true
unfolding Given
text-given k passes ms same (d, is, fits) =
    ap passes (ap (λ o. option_map_or text_of o []) is) ∙ text-passes passes d (sym (same d) ∙ fits)
  where
    text-passes : (passes : List ℕ → Bool) (d : Data) → text_fault passes d ≡ None → passes (text_of d) ≡ true
    text-passes passes d none = passed passes (as_str d) _ _ none

-- names that fit
name-each : (ds : List Data) → list_all is_name_text ds ≡ true → list_all is_name (map text_of ds) ≡ true
name-each [] are = refl
name-each (d ∷ ds) are =
    let both = and_parts (is_name_text d) (list_all is_name_text ds) are in
    grind (arith, nat_tests, both.0, name-each ds both.1)

names-of : (ds : List Data) → names_fault ds ≡ None → AreNames (map text_of ds)
names-of ds none =
    record {
      some = grind (arith, nat_tests, length-map);
      few = grind (arith, nat_tests, length-map);
      spelled = name-each ds (grind (arith, nat_tests));
    }

names-in : (d : Data) → array_fault true d ≡ None → AreNames (map text_of (elements d))
names-in d none = inside (as_array d) refl none
  where
    inside : (a : Option Items) → as_array d ≡ a → option_map_or names_fault (option_map items_list a) (Some Why.Kind) ≡ None → AreNames (map text_of (elements d))
    inside None is none = cc
    inside (Some ds) is none = subst (λ xs. AreNames (map text_of xs)) (sym (elements-as_array d ds is)) (names-of (items_list ds) none)

names-given : (ms : Members) → Given key.Processes (get_member (key_name key.Processes) ms) → AreNames (names_at (codes "processes") ms)
unfolding Given
names-given ms (d, is, fits) =
    subst (λ o. AreNames (map text_of (option_map_or elements o []))) (sym is) (names-in d fits)

-- each form of a row has a name of its own and those that it needs
has-names : (f : Form) (p : Option Place) (ms : Members) → HasAll p ms (needed_keys f) → HasNames (what_of f ms)
unfolding HasAll
has-names form.Deadline p ms (id, (process, rest)) = text-given key.Process is_name ms (λ d. refl) (given p key.Process _ process)
has-names form.Chain p ms (id, (names, rest)) = names-given ms (given p key.Processes _ names)
has-names form.Age p ms (id, (names, rest)) = names-given ms (given p key.Processes _ names)
has-names form.Jitter p ms (id, (process, rest)) = text-given key.Process is_name ms (λ d. refl) (given p key.Process _ process)
has-names form.DoneJitter p ms (id, (process, rest)) = text-given key.Process is_name ms (λ d. refl) (given p key.Process _ process)
has-names form.ChainJitter p ms (id, (names, rest)) = names-given ms (given p key.Processes _ names)
has-names form.Budget p ms (id, (process, rest)) = text-given key.Process is_name ms (λ d. refl) (given p key.Process _ process)
has-names form.Hold p ms (id, (mutex, rest)) = text-given key.Mutex is_name ms (λ d. refl) (given p key.Mutex _ mutex)
has-names form.Release p ms has = tt
has-names form.Growth p ms has = tt
has-names form.Spare p ms has = tt
has-names form.Slack p ms (id, (process, rest)) = text-given key.Process is_name ms (λ d. refl) (given p key.Process _ process)
has-names form.Always p ms (id, (process, rest)) = text-given key.Process is_name ms (λ d. refl) (given p key.Process _ process)
has-names form.Run p ms has = tt

has-id : (f : Form) (p : Option Place) (ms : Members) → HasAll p ms (needed_keys f) → key_fault p true ms key.Id ≡ None
unfolding HasAll
has-id form.Deadline p ms has = has.0
has-id form.Chain p ms has = has.0
has-id form.Age p ms has = has.0
has-id form.Jitter p ms has = has.0
has-id form.DoneJitter p ms has = has.0
has-id form.ChainJitter p ms has = has.0
has-id form.Budget p ms has = has.0
has-id form.Hold p ms has = has.0
has-id form.Release p ms has = has.0
has-id form.Growth p ms has = has.0
has-id form.Spare p ms has = has.0
has-id form.Slack p ms has = has.0
has-id form.Always p ms has = has.0
has-id form.Run p ms has = has.0

need-fit : (s : Section) (i : ℕ) (ms : Members)
    → table_faults (place_of s i) (needed_keys (form_of s ms)) (other_keys (form_of s ms)) ms ≡ [] → IsFit (need_in s i ms)
need-fit s i ms none =
    let p = place_of s i in
    let f = form_of s ms in
    let needed = keys_faults p true ms (needed_keys f) in
    let behind = no-back _ (needed ++ keys_faults p false ms (other_keys f)) none in
    let has = has-all p ms (needed_keys f) (no-front needed (keys_faults p false ms (other_keys f)) behind) in
    record {
      id = text-given key.Id is_id ms (λ d. refl) (given p key.Id _ (has-id f p ms has));
      names = has-names f p ms has;
    }

row-fit : (s : Section) (i : ℕ) (d : Data) → row_faults s i d ≡ [] → AllByRecursion IsFit (need_row s i d)
row-fit s i d none = inside (as_table d) none
  where
    inside : (t : Option Members)
        → option_map_or (λ ms. table_faults (place_of s i) (needed_keys (form_of s ms)) (other_keys (form_of s ms)) ms) t
        (fault_at (place_of s i) key.Id Why.Kind ∷ []) ≡ []
        → AllByRecursion IsFit (option_map_or (λ ms. need_in s i ms ∷ []) t [])
    inside None none = tt
    inside (Some ms) none = (need-fit s i ms none, tt)

both-fit : (xs ys : List Need) → AllByRecursion IsFit xs → AllByRecursion IsFit ys → AllByRecursion IsFit (xs ++ ys)
both-fit [] ys one two = two
both-fit (x ∷ xs) ys one two = (one.0, both-fit xs ys one.1 two)

rows-fit : (s : Section) (i : ℕ) (ds : List Data) → from_row (row_faults s) i ds ≡ [] → AllByRecursion IsFit (from_row (need_row s) i ds)
rows-fit s i [] none = tt
rows-fit s i (d ∷ ds) none =
    both-fit (need_row s i d) (from_row (need_row s) (suc i) ds) (row-fit s i d (no-front (row_faults s i d) (from_row (row_faults s) (suc i) ds) none))
    (rows-fit s (suc i) ds (no-back (row_faults s i d) (from_row (row_faults s) (suc i) ds) none))

sections-fit : (ms : Members) (ss : List Section) → flat_map (section_faults ms) ss ≡ [] → AllByRecursion IsFit (flat_map (section_needs ms) ss)
sections-fit ms [] none = tt
sections-fit ms (s ∷ ss) none =
    both-fit (section_needs ms s) (flat_map (section_needs ms) ss)
    (rows-fit s 0 (rows_at (key_name (section_key s)) ms) (no-front (section_faults ms s) (flat_map (section_faults ms) ss) none))
    (sections-fit ms ss (no-back (section_faults ms s) (flat_map (section_faults ms) ss) none))

-- what is read is what the tables ask for
is-needs : (needs n : Wanted) (fs : List Fault) → answer_of needs (refusal fs) ≡ Ok n → needs ≡ n
is-needs needs n [] is = cc
is-needs needs n (f ∷ fs) is = cc

fit-for : (ms : Members) (n : Wanted) (fs : List Fault) → shape_faults ms ≡ fs → answer_for (needs_of ms) (refusal fs) ≡ Ok n → AllByRecursion IsFit n.rows
unfolding shape_faults needs_of
fit-for ms n (f ∷ fs) none is = cc
fit-for ms n [] none is =
    let same = is-needs (needs_of ms) n (again_faults (needs_of ms).rows) is in
    subst (λ (m : Wanted). AllByRecursion IsFit m.rows) same (sections-fit ms sections (no-back (table_faults None (key.Version ∷ []) top_keys ms) (flat_map (section_faults ms) sections) none))

pub read_fit : (ms : Members) (r : Result Wanted NeedsError) → (r ≢ Err error.NoMemory → r ≡ reading_of ms) → IfOk r (λ n. All IsFit n.rows)
unfolding reading_of
read_fit ms (Ok n) reads = All-from_recursion IsFit n.rows (fit-for ms n (shape_faults ms) refl (sym (reads (λ is. cc))))
read_fit ms (Err e) reads = tt

-- The table of a configuration reads back as that configuration.
use Rattle.dk_loader.proofs.Names.{◌≡◌, ◌∙◌, ◌≤◌, ◌<◌, ◌+◌, ℕ, suc, Bool, true, List, [], ◌∷◌, ◌++◌, map, length, take, get_or, String, Global, Vec, string_bytes, Ordering, Less, Equal, Greater, refl, ap, sym, arith, None, list_all, match_ordering, string_cmp, insert_entry, and_parts, map-append, map_more, take_all, list_all_more, Data, string, table, array, Members, depth, items_depth, view, members_view, items_of, Value, Array, view-Array, Test, first_broken, each_row, append_none, items_list, all_texts, text_of, table_of, insert_member, nat_tests}

match_members : (o : Ordering) (a b c : List (String Global × Value)) → members_view (match_ordering o a b c) ≡ match_ordering o (members_view a) (members_view b) (members_view c)
match_members Less a b c = refl
match_members Equal a b c = refl
match_members Greater a b c = refl

-- a table after an insert
pub members_view-insert_entry : (es : List (String Global × Value)) (k : String Global) (v : Value) → members_view (insert_entry string_cmp es k v) ≡ insert_member (string_bytes k) (view v) (members_view es)
members_view-insert_entry [] k v = refl
members_view-insert_entry (e ∷ es) k v = match_members (string_cmp k e.0) _ _ _ ∙ rw (members_view-insert_entry es k v)

-- a list as items, and back
pub items_list-items_of : (ds : List Data) → items_list (items_of ds) ≡ ds
items_list-items_of [] = refl
items_list-items_of (d ∷ ds) = ap (λ (t : List Data). d ∷ t) (items_list-items_of ds)

-- one more row that is written, and that is small
pub written_more : {R : Type 0} (shown : R → Data) (rows : List R) (i : ℕ) (default row : R) (before after : List Value) (v : Value)
    → i < length rows → row ≡ get_or rows i default → map view before ≡ map shown (take i rows) → view v ≡ shown row → after ≡ before ++ v ∷ []
    → map view after ≡ map shown (take (i + 1) rows)
written_more shown rows i default row before after v h is told here same = grind (arith, nat_tests, map-append, map_more)

-- one more row that is read
pub read_more : {R : Type 0} (read : Data → R) (rows : List Value) (i : ℕ) (default row : Value) (before after : List R) (r : R)
    → i < length rows → row ≡ get_or rows i default → before ≡ map read (map view (take i rows)) → r ≡ read (view row) → after ≡ before ++ r ∷ []
    → after ≡ map read (map view (take (i + 1) rows))
read_more read rows i default row before after r h is told here same =
    let next = ap (map read) (map_more view rows i default h) in
    let parts = map-append read (map view (take i rows)) (view (get_or rows i default) ∷ []) in
    cc

-- all of the rows are read
pub rows_read : {R : Type 0} (read : Data → R) (rows : List Value) (i : ℕ) (items : List R) → length rows ≤ i → items ≡ map read (map view (take i rows)) → items ≡ map read (map view rows)
rows_read read rows i items past told = told ∙ ap (λ (vs : List Value). map read (map view vs)) (take_all i rows past)

pub small_more : {R : Type 0} (small : R → Bool) (rows : List R) (i : ℕ) (default row : R) → i < length rows → row ≡ get_or rows i default
    → list_all small (take i rows) ≡ true → small row ≡ true → list_all small (take (i + 1) rows) ≡ true
small_more small rows i default row h is front here = rw (list_all_more small rows i default h, front, ← is, here) refl

-- all of the rows are written
pub rows_written : {R : Type 0} (shown : R → Data) (rows : List R) (i : ℕ) (v : Vec Value Global) → length rows ≤ i → map view v.items ≡ map shown (take i rows)
    → view (Array v) ≡ array (items_of (map shown rows))
rows_written shown rows i v past told = grind (arith, nat_tests, view-Array, take_all)

pub rows_small : {R : Type 0} (small : R → Bool) (rows : List R) (i : ℕ) → length rows ≤ i → list_all small (take i rows) ≡ true → list_all small rows ≡ true
rows_small small rows i past all = ap (list_all small) (sym (take_all i rows past)) ∙ all

-- rows that each read back
pub rows_back : {R : Type 0} (members : R → Members) (row_in : Members → R) (small : R → Bool) → ((row : R) → small row ≡ true → row_in (members row) ≡ row)
    → (rows : List R) → list_all small rows ≡ true → map (λ d. row_in (table_of d)) (map (λ row. table (members row)) rows) ≡ rows
rows_back members row_in small back [] all = refl
rows_back {R} members row_in small back (row ∷ rows) all = grind (arith, nat_tests, rows_back members row_in small back rows)

-- rows of which each passes its tests
pub rows_pass : {R : Type 0} (tests : ℕ → Data → List Test) (members : R → Members) (small : R → Bool) → ((i : ℕ) (row : R) → small row ≡ true → first_broken (tests i (table (members row))) ≡ None)
    → (i : ℕ) (rows : List R) → list_all small rows ≡ true → first_broken (each_row tests i (map (λ row. table (members row)) rows)) ≡ None
rows_pass tests members small passes i [] all = refl
rows_pass tests members small passes i (row ∷ rows) all = grind (arith, nat_tests, and_parts, append_none, rows_pass tests members small passes (suc i) rows)

-- values that are no deeper than this
pub items_depth-map : {R : Type 0} (f : R → Data) (most : ℕ) → ((row : R) → depth (f row) ≤ most) → (rows : List R) → items_depth (items_of (map f rows)) ≤ most
items_depth-map f most flat [] = omega arith
items_depth-map f most flat (row ∷ rows) = omega (arith, flat row, items_depth-map f most flat rows)

pub text_of-map : (texts : List (List ℕ)) → map text_of (map string texts) ≡ texts
text_of-map [] = refl
text_of-map (t ∷ ts) = ap (λ (s : List (List ℕ)). t ∷ s) (text_of-map ts)

pub all_texts-string : (texts : List (List ℕ)) → all_texts (items_of (map string texts)) ≡ true
all_texts-string [] = refl
all_texts-string (t ∷ ts) = all_texts-string ts

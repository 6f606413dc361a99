-- A document has not many more rows than bytes.
use Rattle.dk_loader.proofs.Names.{ℕ, zero, suc, ◌≡◌, ◌≤◌, ◌<◌, ◌+◌, ◌^◌, true, false, List, [], ◌∷◌, length, drop, ◌++◌, Ordering, Less, Equal, Greater, nat_cmp, refl, ap, subst, arith, codes, ◌==◌, ◌&&◌, slice_index, Option, Some, None, IfSome, option_map, option_and_then, if◌then◌else◌, is_utf8, option_map_or, match_ordering, slice_cmp, Read, first, left_brace, left_bracket, right_bracket, skip_blank, Key, recursion_limit, Data, Items, Members, array, get_member, no_items, item, push_item, same_key, table, after_byte, header_key, key_equals, keyval, members, read_map, Definition, Document, Edit, Expression, Node, Nodes, array_table, at_found, by_dot, by_header, close, close_node, dot_node, dotted, get_node, header, header_node, implicit, insert, key_value, new_node, no_nodes, node, open_array, open_table, put, redefine, replace, std_table, value, HasFewRows, elements, items_list, rows_at, nat_tests}
use Rattle.toml.specs.Parse.{atom, expression, items, line, lines, parse_document, skip_bom, val}
use Rattle.toml.specs.Tables.{along_dots, along_header, at_key, define}
use Rattle.dk_loader.specs.Reading.{document}
use Rattle.dk_loader.proofs.Shortening.{after_byte_short, dropped, either, every, header_key_short, key_equals_short, over, passed, skip_from_short, val_short, weaker}

-- ---- the rows of a value

pushed : (ds : Items) (d : Data) → length (items_list (push_item ds d)) ≡ suc (length (items_list ds))
pushed no_items d = refl
pushed (item e ds) d = ap suc (pushed ds d)

items_found : (read : List ℕ → Read Data) (n : ℕ) (found : Items) (text : List ℕ)
    → IfSome (items read n found text) (λ p. length (items_list p.0) ≤ length (items_list found) + n)
unfolding items
items_found read zero found text = tt
items_found read (suc n) found text = grind (arith, nat_tests, either, passed, every, weaker, pushed, items_found read n)

-- a value has no more rows than its text has bytes
abbrev HasFew : ℕ → Read Data → Type 0
HasFew n r = IfSome r (λ p. length (elements p.0) ≤ n)

atom_rows : (n : ℕ) (text : List ℕ) → HasFew n (atom text)
unfolding atom
atom_rows n text = grind (arith, nat_tests)

value_rows : (depth : ℕ) (text : List ℕ) → HasFew (length text) (val depth text)
unfolding val
value_rows zero text = atom_rows (length text) text
value_rows (suc depth) text =
    let found = items (val depth) (length text) no_items (drop 1 text) in
    let entries = members (val depth) (length text) no_nodes (drop 1 text) in
    either (HasFew (length text)) (first text == left_bracket) (read_map array found) (if first text == left_brace then read_map table entries else atom text)
    (over {A = Items × List ℕ} {B = Data × List ℕ} (λ p. length (elements p.0) ≤ length text) (λ p. (array p.0, p.1)) found
    (weaker {A = Items × List ℕ} (λ p. length (items_list p.0) ≤ length (items_list no_items) + length text) (λ p. length (items_list p.0) ≤ length text) found (λ p most. omega (arith, most)) (items_found (val depth) (length text) no_items (drop 1 text))))
    (either (HasFew (length text)) (first text == left_brace) (read_map table entries) (atom text)
    (over {A = Members × List ℕ} {B = Data × List ℕ} (λ p. length (elements p.0) ≤ length text) (λ p. (table p.0, p.1)) entries (every (λ p. 0 ≤ length text) entries (λ p. omega arith)))
    (atom_rows (length text) text))

-- ---- the rows of an expression

abbrev DefinesFew : ℕ → Definition → Type 0
DefinesFew n (key_value d) = length (elements d) ≤ n
DefinesFew n _ = Unit {0}

abbrev IsRead : ℕ → Expression × List ℕ → Type 0
IsRead n e = (length e.1 ≤ n) × DefinesFew n e.0.1

both_are : {A : Type 0} (P Q : A → Type 0) (o : Option A) → IfSome o P → IfSome o Q → IfSome o (λ x. P x × Q x)
both_are P Q None p q = tt
both_are P Q (Some x) p q = (p, q)

value_read : (n : ℕ) (text : List ℕ) → length text ≤ n → IfSome (keyval (val recursion_limit) text) (λ p. (length p.1 ≤ n) × (length (elements p.0.1) ≤ n))
value_read n text le =
    passed {A = Key × List ℕ} {B = (Key × Data) × List ℕ} (λ k. length k.1 ≤ length text) (λ p. (length p.1 ≤ n) × (length (elements p.0.1) ≤ n)) (key_equals text) (λ k. option_map (λ p. ((k.0, p.0), p.1)) (val recursion_limit k.1)) (key_equals_short text) (λ k short.
    over {A = Data × List ℕ} {B = (Key × Data) × List ℕ} (λ p. (length p.1 ≤ n) × (length (elements p.0.1) ≤ n)) (λ p. ((k.0, p.0), p.1)) (val recursion_limit k.1)
    (both_are (λ p. length p.1 ≤ n) (λ p. length (elements p.0) ≤ n) (val recursion_limit k.1)
    (weaker (λ p. length p.1 ≤ length k.1) (λ p. length p.1 ≤ n) (val recursion_limit k.1) (λ p rest. omega (arith, rest, short, le)) (val_short recursion_limit k.1))
    (weaker (λ p. length (elements p.0) ≤ length k.1) (λ p. length (elements p.0) ≤ n) (val recursion_limit k.1) (λ p most. omega (arith, most, short, le)) (value_rows recursion_limit k.1))))

expression_read : (n : ℕ) (text : List ℕ) → length text ≤ n → IfSome (expression text) (IsRead n)
unfolding expression
expression_read n text le =
    let tables : Read Expression = option_and_then (λ (k : Key × List ℕ). option_map (λ (rest : List ℕ). ((k.0, array_table), rest)) (after_byte right_bracket k.1)) (header_key (drop 2 text)) in
    let headers : Read Expression = read_map (λ (k : Key). (k, std_table)) (header_key (drop 1 text)) in
    let pairs : Read Expression = read_map (λ (p : Key × Data). (p.0, key_value p.1)) (keyval (val recursion_limit) text) in
    either (λ (r : Read Expression). IfSome r (IsRead n)) (first text == left_bracket && slice_index text 1 == left_bracket) tables (if first text == left_bracket then headers else pairs)
    (passed {A = Key × List ℕ} {B = Expression × List ℕ} (λ k. length k.1 ≤ length (drop 2 text)) (IsRead n) (header_key (drop 2 text)) (λ k. option_map (λ rest. ((k.0, array_table), rest)) (after_byte right_bracket k.1)) (header_key_short (drop 2 text)) (λ k short.
    over {A = List ℕ} {B = Expression × List ℕ} (IsRead n) (λ rest. ((k.0, array_table), rest)) (after_byte right_bracket k.1)
    (weaker (λ rest. length rest ≤ length k.1) (λ rest. (length rest ≤ n) × Unit {0}) (after_byte right_bracket k.1) (λ rest less. (omega (arith, less, short, dropped 2 text, le), tt)) (after_byte_short right_bracket k.1))))
    (either (λ (r : Read Expression). IfSome r (IsRead n)) (first text == left_bracket) headers pairs
    (over {A = Key × List ℕ} {B = Expression × List ℕ} (IsRead n) (λ p. ((p.0, std_table), p.1)) (header_key (drop 1 text))
    (weaker (λ p. length p.1 ≤ length (drop 1 text)) (λ p. (length p.1 ≤ n) × Unit {0}) (header_key (drop 1 text)) (λ p short. (omega (arith, short, dropped 1 text, le), tt)) (header_key_short (drop 1 text))))
    (over {A = (Key × Data) × List ℕ} {B = Expression × List ℕ} (IsRead n) (λ p. ((p.0.0, key_value p.0.1), p.1)) (keyval (val recursion_limit) text) (value_read n text le)))

line_read : (n : ℕ) (text : List ℕ) → length text ≤ n → IfSome (line text) (IsRead n)
unfolding line
line_read n text le = grind (arith, nat_tests, passed, expression_read, either)

-- ---- the rows of what a key holds

abbrev size : Node → ℕ
size (value d) = length (elements d)
size (open_table origin ns) = 0
size (open_array done last) = suc (length (items_list done))

abbrev AreFew : ℕ → Nodes → Type 0
AreFew n no_nodes = Unit {0}
AreFew n (node k x ns) = (size x ≤ n) × AreFew n ns

grown : (n m : ℕ) (ns : Nodes) → n ≤ m → AreFew n ns → AreFew m ns
grown n m no_nodes le few = tt
grown n m (node k x ns) le few = (let here : size x ≤ n = few.0 in omega (arith, here, le), grown n m ns le few.1)

get_few : (n : ℕ) (k : List ℕ) (ns : Nodes) → AreFew n ns → IfSome (get_node k ns) (λ x. size x ≤ n)
get_few n k no_nodes few = tt
get_few n k (node l x ns) few = either (λ (o : Option Node). IfSome o (λ x. size x ≤ n)) (same_key k l) (Some x) (get_node k ns) few.0 (get_few n k ns few.1)

three_ways : {A : Type 0} (P : A → Type 0) (o : Ordering) (a b c : A) → P a → P b → P c → P (match_ordering o a b c)
three_ways P Less a b c p q r = p
three_ways P Equal a b c p q r = q
three_ways P Greater a b c p q r = r

insert_few : (n : ℕ) (k : List ℕ) (x : Node) (ns : Nodes) → size x ≤ n → AreFew n ns → AreFew n (insert k x ns)
insert_few n k x no_nodes small few = (small, tt)
insert_few n k x (node l y ns) small few = grind (arith, nat_tests, insert_few n k x ns)

replace_few : (n : ℕ) (k : List ℕ) (x : Node) (ns : Nodes) → size x ≤ n → AreFew n ns → AreFew n (replace k x ns)
replace_few n k x no_nodes small few = tt
replace_few n k x (node l y ns) small few = grind (arith, nat_tests, replace_few n k x ns)

-- an edit of nodes with at most n rows each leaves at most m
abbrev Leaves : ℕ → ℕ → Edit → Type 0
Leaves n m edit = (ns : Nodes) → AreFew n ns → IfSome (edit ns) (AreFew m)

headed : (n m : ℕ) → n ≤ m → (edit : Edit) (x : Node) → size x ≤ n → IfSome (header_node edit x) (λ y. size y ≤ m)
headed n m le edit x small = grind (arith, nat_tests)

pointed : (m : ℕ) (edit : Edit) (x : Node) → IfSome (dot_node edit x) (λ y. size y ≤ m)
pointed m edit x = grind (arith, nat_tests)

module _ (n m : ℕ) (le : n ≤ m) (ns : Nodes) (few : AreFew n ns) (k : List ℕ) (edit : Edit) where
  at_header : (o : Option Node) → IfSome o (λ x. size x ≤ n) → IfSome (by_header k edit ns o) (AreFew m)
  at_header None h = over (AreFew m) (λ new. insert k (open_table implicit new) ns) (edit no_nodes) (every (λ new. AreFew m (insert k (open_table implicit new) ns)) (edit no_nodes) (λ new. insert_few m k (open_table implicit new) ns (omega arith) (grown n m ns le few)))
  at_header (Some x) h =
      over (AreFew m) (λ y. replace k y ns) (header_node edit x) (weaker (λ y. size y ≤ m) (λ y. AreFew m (replace k y ns)) (header_node edit x) (λ y small. replace_few m k y ns small (grown n m ns le few)) (headed n m le edit x h))

  at_dots : (o : Option Node) → IfSome (by_dot k edit ns o) (AreFew m)
  at_dots None = over (AreFew m) (λ new. insert k (open_table dotted new) ns) (edit no_nodes) (every (λ new. AreFew m (insert k (open_table dotted new) ns)) (edit no_nodes) (λ new. insert_few m k (open_table dotted new) ns (omega arith) (grown n m ns le few)))
  at_dots (Some x) =
      over (AreFew m) (λ y. replace k y ns) (dot_node edit x) (weaker (λ y. size y ≤ m) (λ y. AreFew m (replace k y ns)) (dot_node edit x) (λ y small. replace_few m k y ns small (grown n m ns le few)) (pointed m edit x))

along_header_few : (n m : ℕ) → n ≤ m → (path : List (List ℕ)) (edit : Edit) → Leaves n m edit → Leaves n m (along_header path edit)
unfolding along_header
along_header_few n m le [] edit leaves ns few = leaves ns few
along_header_few n m le (k ∷ path) edit leaves ns few = at_header n m le ns few k (along_header path edit) (get_node k ns) (get_few n k ns few)

along_dots_few : (n m : ℕ) → n ≤ m → (path : List (List ℕ)) (edit : Edit) → Leaves n m edit → Leaves n m (along_dots path edit)
unfolding along_dots
along_dots_few n m le [] edit leaves ns few = leaves ns few
along_dots_few n m le (k ∷ path) edit leaves ns few = at_dots n m le ns few k (along_dots path edit) (get_node k ns)

new_few : (m : ℕ) (what : Definition) → 1 ≤ m → DefinesFew m what → size (new_node what) ≤ m
new_few m (key_value d) some few = few
new_few m std_table some few = omega arith
new_few m array_table some few = some

again_few : (n : ℕ) (what : Definition) (x : Node) → size x ≤ n → IfSome (redefine what x) (λ y. size y ≤ n + 1)
again_few n (key_value d) x small = tt
again_few n std_table (value d) small = tt
again_few n std_table (open_table implicit inner) small = omega arith
again_few n std_table (open_table dotted inner) small = tt
again_few n std_table (open_table header inner) small = tt
again_few n std_table (open_array done last) small = tt
again_few n array_table (value d) small = tt
again_few n array_table (open_table origin inner) small = tt
again_few n array_table (open_array done last) small =
    let here : suc (length (items_list done)) ≤ n = small in
    let more = pushed done (table (close last)) in
    omega (arith, here, more)

defines_more : (n : ℕ) (what : Definition) → DefinesFew n what → DefinesFew (n + 1) what
defines_more n (key_value d) few = let here : length (elements d) ≤ n = few in omega (arith, here)
defines_more n std_table few = tt
defines_more n array_table few = tt

at_key_few : (n : ℕ) (k : List ℕ) (what : Definition) → DefinesFew n what → Leaves n (n + 1) (at_key k what)
unfolding at_key
at_key_few n k what defines ns few = go (get_node k ns) (get_few n k ns few)
  where
    go : (o : Option Node) → IfSome o (λ x. size x ≤ n) → IfSome (at_found k what ns o) (AreFew (n + 1))
    go None h = insert_few (n + 1) k (new_node what) ns (new_few (n + 1) what (omega arith) (defines_more n what defines)) (grown n (n + 1) ns (omega arith) few)
    go (Some x) h =
        over (AreFew (n + 1)) (λ y. replace k y ns) (redefine what x)
        (weaker (λ y. size y ≤ n + 1) (λ y. AreFew (n + 1) (replace k y ns)) (redefine what x) (λ y small. replace_few (n + 1) k y ns small (grown n (n + 1) ns (omega arith) few)) (again_few n what x h))

-- a line adds a row at most
define_few : (n : ℕ) (doc : Document) (e : Expression) → DefinesFew n e.1 → AreFew n doc.0 → IfSome (define doc e) (λ next. AreFew (n + 1) next.0)
unfolding define
define_few n (root, path) (key, key_value d) defines few =
    over {A = Nodes} {B = Document} (λ next. AreFew (n + 1) next.0) (λ new. (new, path)) (along_header path (put key d) root)
    (along_header_few n (n + 1) (omega arith) path (put key d) (along_dots_few n (n + 1) (omega arith) key.0 (at_key key.1 (key_value d)) (at_key_few n key.1 (key_value d) defines)) root few)
define_few n (root, path) (key, std_table) defines few =
    over {A = Nodes} {B = Document} (λ next. AreFew (n + 1) next.0) (λ new. (new, key.0 ++ key.1 ∷ [])) (along_header key.0 (at_key key.1 std_table) root)
    (along_header_few n (n + 1) (omega arith) key.0 (at_key key.1 std_table) (at_key_few n key.1 std_table tt) root few)
define_few n (root, path) (key, array_table) defines few =
    over {A = Nodes} {B = Document} (λ next. AreFew (n + 1) next.0) (λ new. (new, key.0 ++ key.1 ∷ [])) (along_header key.0 (at_key key.1 array_table) root)
    (along_header_few n (n + 1) (omega arith) key.0 (at_key key.1 array_table) (at_key_few n key.1 array_table tt) root few)

lines_few : (fuel n : ℕ) (doc : Document) (text : List ℕ) → length text ≤ n → AreFew n doc.0 → IfSome (lines fuel doc text) (λ last. AreFew (n + fuel) last.0)
unfolding lines
lines_few zero n doc text le few = tt
lines_few (suc fuel) n doc text le few =
    let start = skip_blank text in
    let within : length start ≤ n = omega (arith, skip_from_short true false text, le) in
    let next : Expression × List ℕ → Option Document = λ e. option_and_then (λ more. lines fuel more e.1) (define doc e.0) in
    either (λ (o : Option Document). IfSome o (λ last. AreFew (n + suc fuel) last.0)) (length start == 0) (Some doc) (option_and_then next (line start))
    (grown n (n + suc fuel) doc.0 (omega arith) few)
    (passed {A = Expression × List ℕ} {B = Document} (IsRead n) (λ last. AreFew (n + suc fuel) last.0) (line start) next (line_read n start within) (λ e is.
    passed {A = Document} {B = Document} (λ more. AreFew (n + 1) more.0) (λ last. AreFew (n + suc fuel) last.0) (define doc e.0) (λ more. lines fuel more e.1) (define_few n doc e.0 is.1 few) (λ more all.
    weaker {A = Document} (λ last. AreFew (n + 1 + fuel) last.0) (λ last. AreFew (n + suc fuel) last.0) (lines fuel more e.1) (λ last these. grown (n + 1 + fuel) (n + suc fuel) last.0 (omega arith) these)
    (lines_few fuel (n + 1) more e.1 (let short : length e.1 ≤ n = is.0 in omega (arith, short)) all))))

closed : (n : ℕ) (x : Node) → size x ≤ n → length (elements (close_node x)) ≤ n
closed n x small = grind (arith, nat_tests, pushed)

close_rows : (n : ℕ) (k : List ℕ) (ns : Nodes) → AreFew n ns → length (option_map_or elements (get_member k (close ns)) []) ≤ n
close_rows n k no_nodes few = omega arith
close_rows n k (node l x ns) few =
    three_ways (λ (o : Option Data). length (option_map_or elements o []) ≤ n) (slice_cmp nat_cmp k l) (get_member k (close ns)) (Some (close_node x)) (get_member k (close ns))
    (close_rows n k ns few.1) (closed n x few.0) (close_rows n k ns few.1)

skip_bom_short : (text : List ℕ) → length (skip_bom text) ≤ length text
unfolding skip_bom
skip_bom_short text = grind (arith, nat_tests)

parsed_rows : (k text : List ℕ) → IfSome (parse_document text) (λ ms. length (rows_at k ms) ≤ length text + suc (length text))
unfolding parse_document
parsed_rows k text =
    over (λ (ms : Members). length (rows_at k ms) ≤ length text + suc (length text)) (λ (doc : Document). close doc.0) (lines (suc (length text)) (no_nodes, []) (skip_bom text))
    (weaker {A = Document} (λ last. AreFew (length text + suc (length text)) last.0) (λ last. length (rows_at k (close last.0)) ≤ length text + suc (length text)) (lines (suc (length text)) (no_nodes, []) (skip_bom text)) (λ last few. close_rows (length text + suc (length text)) k last.0 few)
    (lines_few (suc (length text)) (length text) (no_nodes, []) (skip_bom text) (skip_bom_short text) tt))

document_rows : (k bytes : List ℕ) → IfSome (document bytes) (λ ms. length (rows_at k ms) ≤ length bytes + suc (length bytes))
unfolding document
document_rows k bytes = either (λ (o : Option Members). IfSome o (λ ms. length (rows_at k ms) ≤ length bytes + suc (length bytes))) (is_utf8 bytes) (parse_document bytes) None (parsed_rows k bytes) tt

-- so 32 bits count the rows of a configuration's file
pub few_rows : (bytes : List ℕ) (ms : Members) → document bytes ≡ Some ms → length bytes ≤ 65536 → HasFewRows ms
few_rows bytes ms is short = record {
  levels = each (codes "level");
  processes = each (codes "process");
  mutexes = each (codes "mutex");
}
  where
    each : (k : List ℕ) → length (rows_at k ms) < 2 ^ 32
    each k = let most : length (rows_at k ms) ≤ length bytes + suc (length bytes) = subst (λ o. IfSome o (λ ms. length (rows_at k ms) ≤ length bytes + suc (length bytes))) is (document_rows k bytes) in omega (arith, most, short)

-- What a reader of TOML leaves of a text is no longer than the text.
use Rattle.dk_loader.proofs.Names.{ℕ, zero, suc, ◌≤◌, Bool, true, false, List, [], ◌∷◌, ◌++◌, length, take, drop, arith, length-drop, ◌==◌, ◌&&◌, nat_lt, nat_le, slice_index, encode_utf8, unwrap_or, Option, Some, None, IfSome, option_map, option_and_then, if◌then◌else◌, prefix_len, list_all, is_digit, digits_value, Scalar, Read, backslash, comma, dot, equals, first, is_bare, is_ws, left_brace, left_bracket, right_brace, right_bracket, skip_blank, skip_lines, skip_turn, split_while, starts_newline, word_len, word_value, Key, after_piece, at_delims, hex_len, is_plain, is_scalar, key, prepend, recursion_limit, simple_escape, starts_string, trim_newline, Data, Items, Members, array, push_item, string, table, no_items, after_byte, keyval, read_map, scalar_data, Nodes, close, no_nodes, put, nat_tests}
use Rattle.toml_parser.specs.Lexical.{skip_from, skip_ws}
use Rattle.toml_parser.specs.Numbers.{unquoted}
use Rattle.toml_parser.specs.Strings.{body, escape, escape_char, hex_escape, key_after, one_line, quoted, simple_key, special}
use Rattle.toml.specs.Parse.{after_element, atom, header_key, items, key_equals, members, val}

-- a reader leaves no more than the text
abbrev pub Short : {A : Type 0} → List ℕ → Read A → Type 0
Short text r = IfSome r (λ p. length p.1 ≤ length text)

-- the same of a reader, whose results tell its type
kept : {A : Type 0} (text : List ℕ) (t : Bool) (x y : Read A) → Short text x → Short text y → Short text (if t then x else y)
kept text true x y p q = p
kept text false x y p q = q

pub either : {A : Type 0} (P : A → Type 0) (t : Bool) (x y : A) → P x → P y → P (if t then x else y)
either P true x y p q = p
either P false x y p q = q

pub every : {A : Type 0} (P : A → Type 0) (o : Option A) → ((x : A) → P x) → IfSome o P
every P None h = tt
every P (Some x) h = h x

pub weaker : {A : Type 0} (P Q : A → Type 0) (o : Option A) → ((x : A) → P x → Q x) → IfSome o P → IfSome o Q
weaker P Q None h p = tt
weaker P Q (Some x) h p = h x p

pub passed : {A B : Type 0} (P : A → Type 0) (Q : B → Type 0) (o : Option A) (f : A → Option B) → IfSome o P → ((x : A) → P x → IfSome (f x) Q) → IfSome (option_and_then f o) Q
passed P Q None f p h = tt
passed P Q (Some x) f p h = h x p

pub over : {A B : Type 0} (Q : B → Type 0) (f : A → B) (o : Option A) → IfSome o (λ x. Q (f x)) → IfSome (option_map f o) Q
over Q f None h = tt
over Q f (Some x) h = h

pub dropped : (n : ℕ) (text : List ℕ) → length (drop n text) ≤ length text
dropped n text = omega (arith, length-drop n text)

wider : {A : Type 0} (small big : List ℕ) (r : Read A) → length small ≤ length big → Short small r → Short big r
wider small big r le h = weaker (λ p. length p.1 ≤ length small) (λ p. length p.1 ≤ length big) r (λ p short. omega (arith, le, short)) h

mapped : {A B : Type 0} (text : List ℕ) (f : A → B) (r : Read A) → Short text r → Short text (option_map (λ p. (f p.0, p.1)) r)
mapped text f None h = tt
mapped text f (Some p) h = h

followed : {A B : Type 0} (text : List ℕ) (r : Read A) (f : A × List ℕ → Read B) → Short text r
    → ((p : A × List ℕ) → length p.1 ≤ length text → Short text (f p)) → Short text (option_and_then f r)
followed text None f h g = tt
followed text (Some p) f h g = g p h

-- ---- blanks

pub skip_ws_short : (text : List ℕ) → length (skip_ws text) ≤ length text
unfolding skip_ws
skip_ws_short text = dropped (prefix_len is_ws text) text

pub skip_from_short : (comments inside : Bool) (text : List ℕ) → length (skip_from comments inside text) ≤ length text
unfolding skip_from
skip_from_short comments inside [] = omega arith
skip_from_short comments inside (c ∷ cs) = grind (arith, nat_tests, skip_from_short comments (unwrap_or (skip_turn comments inside c (first cs)) false) cs)

pub after_byte_short : (byte : ℕ) (text : List ℕ) → IfSome (after_byte byte text) (λ rest. length rest ≤ length text)
after_byte_short byte text = grind (arith, nat_tests)

-- ---- strings and keys

hex_escape_short : (n : ℕ) (text : List ℕ) → Short text (hex_escape n text)
unfolding hex_escape
hex_escape_short n text =
    let digits = take n text in
    kept {A = ℕ} text ((nat_le n (length text) && list_all (λ c. is_digit c 16) digits) && is_scalar (digits_value 16 digits)) (Some (digits_value 16 digits, drop n text)) None (dropped n text) tt

escape_char_short : (text : List ℕ) → Short text (escape_char text)
unfolding escape_char
escape_char_short text =
    kept {A = ℕ} text (nat_lt 0 (hex_len (first text))) (hex_escape (hex_len (first text)) (drop 1 text)) (option_map (λ c. (c, drop 1 text)) (simple_escape (first text)))
    (wider (drop 1 text) text (hex_escape (hex_len (first text)) (drop 1 text)) (dropped 1 text) (hex_escape_short (hex_len (first text)) (drop 1 text)))
    (over (λ (p : ℕ × List ℕ). length p.1 ≤ length text) (λ c. (c, drop 1 text)) (simple_escape (first text)) (every (λ c. length (drop 1 text) ≤ length text) (simple_escape (first text)) (λ c. dropped 1 text)))

escape_short : (multi : Bool) (text : List ℕ) → Short text (escape multi text)
unfolding escape
escape_short multi text =
    kept {A = List ℕ} text (multi && starts_newline (skip_ws text)) (Some ([], skip_lines text)) (option_map (λ p. (encode_utf8 p.0, p.1)) (escape_char text)) (skip_from_short false false text) (mapped text encode_utf8 (escape_char text) (escape_char_short text))

at_delims_short : (delim : ℕ) (text : List ℕ) → Short text (at_delims delim text)
at_delims_short delim text =
    let count = prefix_len (λ c. c == delim) text in
    kept {A = Option (List ℕ)} text (count == 3) (Some (None, drop 3 text)) (if nat_lt count 6 then Some (Some (delim ∷ []), drop 1 text) else None) (dropped 3 text)
    (kept {A = Option (List ℕ)} text (nat_lt count 6) (Some (Some (delim ∷ []), drop 1 text)) None (dropped 1 text) tt)

special_short : (delim : ℕ) (multi : Bool) (text : List ℕ) → Short text (special delim multi text)
unfolding special
special_short delim multi text =
    let escaped : Read (Option (List ℕ)) = option_map (λ (p : List ℕ × List ℕ). (Some p.0, p.1)) (escape multi (drop 1 text)) in
    let newline : Read (Option (List ℕ)) = if multi && starts_newline text then Some (Some (first text ∷ []), drop 1 text) else None in
    kept {A = Option (List ℕ)} text (first text == delim) (if multi then at_delims delim text else Some (None, drop 1 text)) (if first text == backslash then escaped else newline)
    (kept {A = Option (List ℕ)} text multi (at_delims delim text) (Some (None, drop 1 text)) (at_delims_short delim text) (dropped 1 text))
    (kept {A = Option (List ℕ)} text (first text == backslash) escaped newline
    (mapped text (λ x. Some x) (escape multi (drop 1 text)) (wider (drop 1 text) text (escape multi (drop 1 text)) (dropped 1 text) (escape_short multi (drop 1 text))))
    (kept {A = Option (List ℕ)} text (multi && starts_newline text) (Some (Some (first text ∷ []), drop 1 text)) None (dropped 1 text) tt))

piece_short : (more : List ℕ → Read (List ℕ)) → ((t : List ℕ) → Short t (more t)) → (text : List ℕ) (o : Option (List ℕ)) (rest : List ℕ) → length rest ≤ length text
    → Short text (after_piece more o rest)
piece_short more each text None rest le = le
piece_short more each text (Some bytes) rest le = mapped text (λ x. bytes ++ x) (more rest) (wider rest text (more rest) le (each rest))

body_short : (delim : ℕ) (multi : Bool) (n : ℕ) (text : List ℕ) → Short text (body delim multi n text)
unfolding body
body_short delim multi zero text = tt
body_short delim multi (suc n) text =
    let more = body delim multi n (drop 1 text) in
    let goes_on : Option (List ℕ) × List ℕ → Read (List ℕ) = λ p. after_piece (body delim multi n) p.0 p.1 in
    kept {A = List ℕ} text (is_plain delim multi (first text)) (prepend (first text ∷ []) more) (option_and_then goes_on (special delim multi text))
    (mapped text (λ x. (first text ∷ []) ++ x) more (wider (drop 1 text) text more (dropped 1 text) (body_short delim multi n (drop 1 text))))
    (followed text (special delim multi text) goes_on (special_short delim multi text) (λ p le. piece_short (body delim multi n) (body_short delim multi n) text p.0 p.1 le))

trim_short : (text : List ℕ) → length (trim_newline text) ≤ length text
trim_short text = grind (arith, nat_tests)

one_line_short : (text : List ℕ) → Short text (one_line text)
unfolding one_line
one_line_short text = wider (drop 1 text) text (body (first text) false (length text) (drop 1 text)) (dropped 1 text) (body_short (first text) false (length text) (drop 1 text))

quoted_short : (text : List ℕ) → Short text (quoted text)
unfolding quoted
quoted_short text =
    let start = trim_newline (drop 3 text) in
    let within : length start ≤ length text = omega (arith, trim_short (drop 3 text), dropped 3 text) in
    kept {A = List ℕ} text (slice_index text 1 == first text && slice_index text 2 == first text) (body (first text) true (length text) start) (one_line text) (wider start text (body (first text) true (length text) start) within (body_short (first text) true (length text) start)) (one_line_short text)

simple_key_short : (text : List ℕ) → Short text (simple_key text)
unfolding simple_key
simple_key_short text =
    kept {A = List ℕ} text (starts_string text) (one_line text) (if is_bare (first text) then Some (split_while is_bare text) else None) (one_line_short text)
    (kept {A = List ℕ} text (is_bare (first text)) (Some (split_while is_bare text)) None (dropped (prefix_len is_bare text) text) tt)

key_after_short : (n : ℕ) (path : List (List ℕ)) (text : List ℕ) → Short text (key_after n path text)
unfolding key_after
key_after_short zero path text = tt
key_after_short (suc n) path text =
    followed {A = List ℕ} {B = Key} text (simple_key text)
    (λ part. if first (skip_ws part.1) == dot then key_after n (path ++ part.0 ∷ []) (skip_ws (drop 1 (skip_ws part.1))) else Some ((path, part.0), skip_ws part.1))
    (simple_key_short text) (λ part le.
    (let rest = skip_ws part.1 in
    let within : length rest ≤ length text = omega (arith, skip_ws_short part.1, le) in
    let behind = skip_ws (drop 1 rest) in
    let further : length behind ≤ length text = omega (arith, skip_ws_short (drop 1 rest), dropped 1 rest, within) in
    kept {A = Key} text (first rest == dot) (key_after n (path ++ part.0 ∷ []) behind) (Some ((path, part.0), rest)) (wider behind text (key_after n (path ++ part.0 ∷ []) behind) further (key_after_short n (path ++ part.0 ∷ []) behind)) within))

pub key_short : (text : List ℕ) → Short text (key text)
key_short text = key_after_short recursion_limit [] text

pub key_equals_short : (text : List ℕ) → Short text (key_equals text)
unfolding key_equals
key_equals_short text =
    followed {A = Key} {B = Key} text (key text) (λ k. option_map (λ rest. (k.0, skip_ws rest)) (after_byte equals k.1)) (key_short text) (λ k le.
    over {B = Key × List ℕ} (λ p. length p.1 ≤ length text) (λ rest. (k.0, skip_ws rest)) (after_byte equals k.1)
    (weaker (λ rest. length rest ≤ length k.1) (λ rest. length (skip_ws rest) ≤ length text) (after_byte equals k.1) (λ rest short. omega (arith, skip_ws_short rest, short, le)) (after_byte_short equals k.1)))

pub header_key_short : (text : List ℕ) → Short text (header_key text)
unfolding header_key
header_key_short text =
    followed {A = Key} {B = Key} text (key (skip_ws text)) (λ k. option_map (λ rest. (k.0, rest)) (after_byte right_bracket k.1)) (wider (skip_ws text) text (key (skip_ws text)) (skip_ws_short text) (key_short (skip_ws text))) (λ k le.
    over {B = Key × List ℕ} (λ p. length p.1 ≤ length text) (λ rest. (k.0, rest)) (after_byte right_bracket k.1)
    (weaker (λ rest. length rest ≤ length k.1) (λ rest. length rest ≤ length text) (after_byte right_bracket k.1) (λ rest short. omega (arith, short, le)) (after_byte_short right_bracket k.1)))

-- ---- values

after_element_short : (closing : ℕ) (text : List ℕ) → IfSome (after_element closing text) (λ rest. length rest ≤ length text)
unfolding after_element
after_element_short closing text =
    let start = skip_blank text in
    let within : length start ≤ length text = skip_from_short true false text in
    let behind : length (drop 1 start) ≤ length text = omega (arith, dropped 1 start, within) in
    either (λ (o : Option (List ℕ)). IfSome o (λ rest. length rest ≤ length text)) (first start == comma) (Some (drop 1 start)) (if first start == closing then Some start else None) behind
    (either (λ (o : Option (List ℕ)). IfSome o (λ rest. length rest ≤ length text)) (first start == closing) (Some start) None within tt)

module _ (read : List ℕ → Read Data) (each : (t : List ℕ) → Short t (read t)) where
  items_short : (n : ℕ) (found : Items) (text : List ℕ) → Short text (items read n found text)
  unfolding items
  items_short zero found text = tt
  items_short (suc n) found text =
      let start = skip_blank text in
      let within : length start ≤ length text = skip_from_short true false text in
      let behind : length (drop 1 start) ≤ length text = omega (arith, dropped 1 start, within) in
      let next : Data × List ℕ → Read Items = λ v. option_and_then (items read n (push_item found v.0)) (after_element right_bracket v.1) in
      kept {A = Items} text (first start == right_bracket) (Some (found, drop 1 start)) (option_and_then next (read start)) behind
      (followed text (read start) next (wider start text (read start) within (each start)) (λ v le.
      passed {B = Items × List ℕ} (λ rest. length rest ≤ length v.1) (λ p. length p.1 ≤ length text) (after_element right_bracket v.1) (items read n (push_item found v.0)) (after_element_short right_bracket v.1) (λ rest short.
      wider rest text (items read n (push_item found v.0) rest) (omega (arith, short, le)) (items_short n (push_item found v.0) rest))))

  keyval_short : (text : List ℕ) → Short text (keyval read text)
  keyval_short text =
      followed {A = Key} {B = Key × Data} text (key_equals text) (λ k. option_map (λ p. ((k.0, p.0), p.1)) (read k.1)) (key_equals_short text) (λ k le.
      mapped text (λ d. (k.0, d)) (read k.1) (wider k.1 text (read k.1) le (each k.1)))

  members_short : (n : ℕ) (found : Nodes) (text : List ℕ) → Short text (members read n found text)
  unfolding members
  members_short zero found text = tt
  members_short (suc n) found text =
      let start = skip_blank text in
      let within : length start ≤ length text = skip_from_short true false text in
      let behind : length (drop 1 start) ≤ length text = omega (arith, dropped 1 start, within) in
      let next : (Key × Data) × List ℕ → Read Members = λ e. option_and_then (λ more. option_and_then (members read n more) (after_element right_brace e.1)) (put e.0.0 e.0.1 found) in
      kept {A = Members} text (first start == right_brace) (Some (close found, drop 1 start)) (option_and_then next (keyval read start)) behind
      (followed text (keyval read start) next (wider start text (keyval read start) within (keyval_short start)) (λ e le.
      passed {B = Members × List ℕ} (λ more. Unit {0}) (λ p. length p.1 ≤ length text) (put e.0.0 e.0.1 found) (λ more. option_and_then (members read n more) (after_element right_brace e.1)) (every (λ more. Unit {0}) (put e.0.0 e.0.1 found) (λ more. tt)) (λ more known.
      passed {B = Members × List ℕ} (λ rest. length rest ≤ length e.1) (λ p. length p.1 ≤ length text) (after_element right_brace e.1) (members read n more) (after_element_short right_brace e.1) (λ rest short.
      wider rest text (members read n more rest) (omega (arith, short, le)) (members_short n more rest)))))

unquoted_short : (text : List ℕ) → Short text (unquoted text)
unfolding unquoted
unquoted_short text =
    let found = word_value (take (word_len text) text) in
    kept {A = Scalar} text (word_len text == 0) None (option_map (λ d. (d, drop (word_len text) text)) found) tt
    (over {B = Scalar × List ℕ} (λ p. length p.1 ≤ length text) (λ d. (d, drop (word_len text) text)) found (every (λ d. length (drop (word_len text) text) ≤ length text) found (λ d. dropped (word_len text) text)))

atom_short : (text : List ℕ) → Short text (atom text)
unfolding atom
atom_short text =
    kept {A = Data} text (starts_string text) (read_map string (quoted text)) (read_map scalar_data (unquoted text))
    (mapped text string (quoted text) (quoted_short text)) (mapped text scalar_data (unquoted text) (unquoted_short text))

pub val_short : (depth : ℕ) (text : List ℕ) → Short text (val depth text)
unfolding val
val_short zero text = atom_short text
val_short (suc depth) text =
    let elements = items (val depth) (length text) no_items (drop 1 text) in
    let entries = members (val depth) (length text) no_nodes (drop 1 text) in
    kept {A = Data} text (first text == left_bracket) (read_map array elements) (if first text == left_brace then read_map table entries else atom text)
    (mapped text array elements (wider (drop 1 text) text elements (dropped 1 text) (items_short (val depth) (val_short depth) (length text) no_items (drop 1 text))))
    (kept {A = Data} text (first text == left_brace) (read_map table entries) (atom text)
    (mapped text table entries (wider (drop 1 text) text entries (dropped 1 text) (members_short (val depth) (val_short depth) (length text) no_nodes (drop 1 text))))
    (atom_short text))

-- What a part of a trace's text adds to the events that are read.
use Rattle.std.proofs.Common.{ℕ, ◌≡◌, ◌∙◌, ◌+◌, ◌<◌, ◌≤◌, ◌^◌, ◌++◌, [], ◌∷◌, List, ap, refl, sym, subst, arith, codes, append_assoc, append-nil}
use Rattle.std.specs.Prelude.{Some, decimal, flat_map, option_map, option_and_then}
use Rattle.std.proofs.lemmas.Fmt.{decimal_digit}
use Rattle.json.specs.Token.{Token}
use Rattle.json.specs.Text.{content}
use Rattle.json.specs.Lex.{lex, between, after_comma, punctuate, tokens}
use Rattle.json.specs.Print.{IsNumber}
use Rattle.json.specs.Json as json
use Rattle.json.specs.Tree.{json_tokens, items_tokens, depth, items_depth}
use Rattle.json.proofs.Printed.Decimals.{IsNumber-decimal}
use Rattle.json.proofs.Printed.Trees.{value-json_tokens}
use Rattle.serde_json.specs.Data.{Data, item, no_members, member, put, array, object, string, unsigned}
use Rattle.serde_json.specs.Read.{number_of, of_json, of_items, max_depth, read}
use Rattle.serde_json.specs.View.{items_of}
use Rattle.serde_json.proofs.Numbers.{number_of-decimal}
use Rattle.dk_trace_json.specs.Events.{made}
use Rattle.dk_trace_json.proofs.Plain.{ArePlain, value_read, written}

-- the text, from behind a comma up to the document's end, has these events
pub record Ends (r : List ℕ) (ds : List Data) : Type 0 where
  pub events : json.Items
  pub tokens : punctuate after_comma (lex between r) ≡ items_tokens events ++ Token.end_object ∷ []
  pub values : of_items events ≡ Some (items_of ds)
  pub shallow : items_depth events ≤ 2

-- the text adds these events
pub record Adds (s : List ℕ) (es : List Data) : Type 0 where
  pub reads : (r : List ℕ) (ds : List Data) → Ends r ds → Ends (s ++ r) (es ++ ds)

pub adds_none : Adds [] []
adds_none = record { reads = λ r ds ends. ends }

pub adds_both : {s t : List ℕ} {es fs : List Data} → Adds s es → Adds t fs → Adds (s ++ t) (es ++ fs)
adds_both {s} {t} {es} {fs} first second = record {
  reads = λ r ds ends.
      subst (λ x. Ends x ((es ++ fs) ++ ds)) (sym (append_assoc s t r))
      (subst (Ends (s ++ (t ++ r))) (sym (append_assoc es fs ds)) (first.reads (t ++ r) (fs ++ ds) (second.reads r ds ends)));
}

pub adds_each : {A : Type 0} (f : A → List ℕ) (g : A → List Data) → ((x : A) → Adds (f x) (g x)) → (xs : List A) → Adds (flat_map f xs) (flat_map g xs)
adds_each f g one [] = adds_none
adds_each f g one (x ∷ xs) = adds_both (one x) (adds_each f g one xs)

-- ---- one event

-- an object that is read as this value
pub record IsEvent (ms : json.Members) (d : Data) : Type 0 where
  pub plain : ArePlain ms
  pub value : of_json (json.object ms) ≡ Some d
  pub shallow : depth (json.object ms) ≤ 2

with_event : (j : json.Json) (d : Data) (js : json.Items) (ds : List Data) → of_json j ≡ Some d → of_items js ≡ Some (items_of ds)
    → of_items (json.item j js) ≡ Some (items_of (d ∷ ds))
with_event j d js ds value values =
    ap (λ o. option_and_then (λ e. option_map (item e) (of_items js)) o) value ∙ ap (λ o. option_map (item d) o) values

one_more : (ms : json.Members) (d : Data) (s : List ℕ) → IsEvent ms d → ((r : List ℕ) → s ++ r ≡ written (json.object ms) (44 ∷ 10 ∷ r))
    → (r : List ℕ) (ds : List Data) → Ends r ds → Ends (s ++ r) (d ∷ ds)
unfolding lex punctuate
one_more ms d s is text r ds ends = record {
  events = json.item (json.object ms) ends.events;
  tokens = ap (λ t. punctuate after_comma (lex between t)) (text r) ∙ value_read (json.object ms) (44 ∷ 10 ∷ r) is.plain refl refl
      ∙ ap (λ ts. json_tokens (json.object ms) ++ ts) ends.tokens
      ∙ sym (append_assoc (json_tokens (json.object ms)) (items_tokens ends.events) (Token.end_object ∷ []));
  values = with_event (json.object ms) d ends.events ds is.value ends.values;
  shallow = let one = is.shallow in let more = ends.shallow in omega (arith, one, more);
}

pub adds_one : (ms : json.Members) (d : Data) (s : List ℕ) → IsEvent ms d → ((r : List ℕ) → s ++ r ≡ written (json.object ms) (44 ∷ 10 ∷ r)) → Adds s (d ∷ [])
adds_one ms d s is text = record { reads = one_more ms d s is text }

-- the last one, behind which the document ends
pub ends_with : (ms : json.Members) (d : Data) (s : List ℕ) → IsEvent ms d → s ≡ written (json.object ms) (codes "\n]}\n") → Ends s (d ∷ [])
unfolding lex punctuate
ends_with ms d s is text = record {
  events = json.item (json.object ms) json.no_items;
  tokens = ap (λ t. punctuate after_comma (lex between t)) text ∙ value_read (json.object ms) (codes "\n]}\n") is.plain refl refl
      ∙ sym (append_assoc (json_tokens (json.object ms)) (Token.end_array ∷ []) (Token.end_object ∷ []));
  values = with_event (json.object ms) d json.no_items [] is.value refl;
  shallow = let one = is.shallow in omega (arith, one);
}

-- ---- all events

pub all_read : (r : List ℕ) (ds : List Data) → Ends (123 ∷ r) ds
    → read (codes "{\"displayTimeUnit\":\"ms\",\"traceEvents\":[\n" ++ 123 ∷ r) ≡ Some (made ((codes "displayTimeUnit", string (codes "ms")) ∷ (codes "traceEvents", array (items_of ds)) ∷ []))
unfolding lex punctuate content
all_read r ds ends =
    let text = codes "{\"displayTimeUnit\":\"ms\",\"traceEvents\":[\n" ++ 123 ∷ r in
    let j = json.object (json.member (codes "displayTimeUnit") (json.string (codes "ms")) (json.member (codes "traceEvents") (json.array ends.events) json.no_members)) in
    let same : tokens text ≡ json_tokens j =
    ap (λ ts. Token.begin_object ∷ Token.key (codes "displayTimeUnit") ∷ Token.string (codes "ms") ∷ Token.key (codes "traceEvents") ∷ Token.begin_array ∷ ts) ends.tokens in
    let events = ends.shallow in
    let shallow : depth j ≤ max_depth = omega (arith, events) in
    ap (λ ts. option_and_then of_json (option_and_then (λ p. json.if_last p.0 p.1) (json.value max_depth ts))) (same ∙ sym (append-nil (json_tokens j)))
    ∙ ap (λ o. option_and_then of_json (option_and_then (λ p. json.if_last p.0 p.1) o)) (value-json_tokens j max_depth [] shallow)
    ∙ ap (λ o. option_map object (option_and_then (λ d. Some (put (codes "traceEvents") d (member (codes "displayTimeUnit") (string (codes "ms")) no_members))) (option_map array o))) ends.values

-- ---- texts and numbers in an event

-- the text of a number
pub record IsCount (s : List ℕ) (n : ℕ) : Type 0 where
  pub plain : IsNumber s
  pub value : number_of s ≡ Some (unsigned n)

pub counted : (n : ℕ) → n < 2 ^ 64 → IsCount (decimal n) n
counted n few = record { plain = IsNumber-decimal n few; value = number_of-decimal n few }

pub digit : (n : ℕ) → n < 10 → IsCount ((48 + n) ∷ []) n
digit n few = subst (λ s. IsCount s n) (decimal_digit n few) (counted n (omega arith))

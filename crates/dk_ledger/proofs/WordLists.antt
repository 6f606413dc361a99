-- The words of an entry, and those of its label.
use Rattle.dk_ledger.proofs.Names.{◌≡◌, ◌∙◌, sym, ap, refl, ◌<◌, ◌≤◌, ◌-◌, ℕ, zero, suc, List, [], ◌∷◌, length, get_or, take, drop, arith, Option, Some, None, decimal, codes, Bor, length-map, take_rest, ThreadId, Source, Work, Label, Event, HasThread, HasLabel, Heading, thread_text, work_text, size_in, texts, first_word, label_words, event_words, nat_tests}
use Rattle.dk_ledger.proofs.OneText.{word_rank, head_of, label_rank, label_ranked}

-- the word at a place is that of the texts
pub word_at : (words : List (Bor (List ℕ))) (i : ℕ) (d : Bor (List ℕ)) → (get_or words i d).now ≡ get_or (texts words) i d.now
word_at [] i d = refl
word_at (w ∷ ws) zero d = refl
word_at (w ∷ ws) (suc i) d = word_at ws i d

pub counted : (words : List (Bor (List ℕ))) {ws : List (List ℕ)} → texts words ≡ ws → length words ≡ length ws
counted words e = sym (length-map words (λ w. w.now)) ∙ ap length e

texts_drop : (n : ℕ) (words : List (Bor (List ℕ))) → texts (drop n words) ≡ drop n (texts words)
texts_drop zero words = refl
texts_drop (suc n) [] = refl
texts_drop (suc n) (w ∷ ws) = texts_drop n ws

-- Words that are cut behind those of the label.
module _ (h : Heading) (label : Label) (more : List (List ℕ)) (words : List (Bor (List ℕ))) (n : ℕ) (e : texts words ≡ label_words h label more)
    (count : n ≡ length (label_words h label [])) where
  pub label_front : texts (take n words) ≡ label_words h label []
  label_front = grind (arith, nat_tests)

  pub event_behind : texts (drop n words) ≡ more
  event_behind = grind (arith, nat_tests)

-- the words behind the two numbers of a line
pub behind_numbers : (words : List (Bor (List ℕ))) (a b : List ℕ) (more : List (List ℕ)) → texts words ≡ a ∷ b ∷ more → texts (take (length words - 2) (drop 2 words)) ≡ more
behind_numbers words a b more e = ap texts (take_rest words 2) ∙ texts_drop 2 words ∙ ap (drop 2) e

-- four words are those of slack of the timeline
pub timeline_label : (h : Heading) (words : List (Bor (List ℕ))) (d : Bor (List ℕ)) (found : Option Label) → 4 ≤ length words → length words < 5
    → ((x : ThreadId) (work : Work) → HasThread (size_in h) x → (get_or words 2 d).now ≡ work_text work → (get_or words 3 d).now ≡ thread_text h x
    → found ≡ Some (Label.Slack x Source.Timeline work))
    → (label : Label) → HasLabel (size_in h) label → texts words ≡ label_words h label [] → found ≡ Some label
timeline_label h words d found few many is at has e = grind (arith, nat_tests, word_at, counted)

-- five words are those of slack of a level
pub reclaimed_label : (h : Heading) (words : List (Bor (List ℕ))) (d : Bor (List ℕ)) (level : ℕ) (found : Option Label) → 5 ≤ length words → length h.levels ≤ 12
    → ((j : ℕ) → j < 256 → (get_or words 2 d).now ≡ decimal j → level ≡ j)
    → ((x : ThreadId) (work : Work) → HasThread (size_in h) x → (get_or words 3 d).now ≡ work_text work → (get_or words 4 d).now ≡ thread_text h x
    → found ≡ Some (Label.Slack x (Source.Reclaimed level) work))
    → (label : Label) → HasLabel (size_in h) label → texts words ≡ label_words h label [] → found ≡ Some label
reclaimed_label h words d level found many small number is at has e = grind (arith, nat_tests, word_at, counted)

-- What the first word of a label tells.
module _ (words : List (Bor (List ℕ))) (h : Heading) (label : Label) (more : List (List ℕ)) (e : texts words ≡ label_words h label more) where
  ranked : word_rank (first_word words) ≡ label_rank label
  ranked = grind (arith, nat_tests, word_rank, word_at, label_ranked, head_of)

  pub idle_count : first_word words ≡ codes "idle" → 1 ≡ length (label_words h label [])
  idle_count is = grind (arith, nat_tests, ranked, word_rank, label_rank)

  pub plain_count : (first_word words ≡ codes "idle" → ⊥) → (first_word words ≡ codes "slack" → ⊥) → 2 ≡ length (label_words h label [])
  plain_count no_idle no_slack = grind (arith, nat_tests, word_at)

  second : (v w : List ℕ) (ws : List (List ℕ)) → texts words ≡ v ∷ w ∷ ws → first_word (take (length words - 1) (drop 1 words)) ≡ w
  second v w ws k =
      word_at (take (length words - 1) (drop 1 words)) 0 (record { ref_ptr = (0, 0); now = [] })
      ∙ ap (λ vs. get_or vs 0 []) (ap texts (take_rest words 1) ∙ texts_drop 1 words ∙ ap (drop 1) k)

  pub timeline_count : first_word words ≡ codes "slack" → first_word (take (length words - 1) (drop 1 words)) ≡ codes "timeline" → 4 ≡ length (label_words h label [])
  timeline_count is timeline = grind (arith, nat_tests)

  pub reclaimed_count : first_word words ≡ codes "slack" → (first_word (take (length words - 1) (drop 1 words)) ≡ codes "timeline" → ⊥) → 5 ≡ length (label_words h label [])
  reclaimed_count is other = grind (arith, nat_tests, ranked, word_rank, label_rank, second)

-- there are words where one is the first
pub some_words : (words : List (Bor (List ℕ))) → first_word words ≡ codes "slack" → 1 ≤ length words
some_words [] is = absurd cc
some_words (w ∷ ws) is = omega arith

-- one word is that of no label but one
pub idle_label : (h : Heading) (words : List (Bor (List ℕ))) → length words < 2 → (label : Label) → texts words ≡ label_words h label [] → Some Label.Idle ≡ Some label
idle_label h words few is e = grind (arith, nat_tests, counted)

-- no label has so many words
pub no_label : (h : Heading) (words : List (Bor (List ℕ))) → (length words ≡ 1 → ⊥) → (length words ≡ 2 → ⊥) → (length words ≡ 4 → ⊥) → (length words ≡ 5 → ⊥)
    → (label : Label) → texts words ≡ label_words h label [] → None ≡ Some label
no_label h words one two four five is e = grind (arith, nat_tests, counted)

-- no event has so many words
pub no_event : (words : List (Bor (List ℕ))) → (length words ≡ 1 → ⊥) → (length words ≡ 2 → ⊥) → (length words ≡ 4 → ⊥) → (event : Option Event) → texts words ≡ event_words event
    → None ≡ event
no_event words one two four is e = grind (arith, nat_tests, counted)

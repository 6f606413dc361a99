-- Lines that are written alike are the same.
use Rattle.dk_ledger.proofs.Names.{inl, inr, ◌≡◌, ◌∙◌, sym, ap, refl, ◌<◌, ◌≤◌, ◌^◌, ℕ, Bool, true, false, List, [], ◌∷◌, length, arith, append_assoc, ◌==◌, if◌then◌else◌, Option, Some, None, codes, decimal, All, list_all, slice_split, bytes_eq, slice_split_at, slice_split_none, decimal_injective, bytes_eq-Decides, eqb-false, cases_order, is_name, FaultKind, ThreadId, Source, Work, Label, Event, Refusal, number, word_of, HasThread, HasSource, HasLabel, HasOwnEvent, make-id, TableRow, ProcessLine, LedgerLine, Heading, level_body, process_body, name_of, thread_text, work_text, fault_text, line_body, IsLevelRow, IsProcessLine, HaveOwnNames, size_in, level_words, process_words, source_words, label_words, event_words, words_of, nat_tests}
use Rattle.dk_ledger.proofs.WordBytes.{is_no_dot, all_no_dots, decimal_no_dots, name_at_no_dots}
use Rattle.dk_ledger.proofs.Split.{cut_level, cut_process, cut_line, refusal_small}
use Rattle.dk_ledger.proofs.EntryLists.{IsReadableLine}
use Rattle.dk_ledger.proofs.NextItem.{one_side}

same_number : (m n : ℕ) → m < 2 ^ 32 → n < 2 ^ 32 → decimal m ≡ decimal n → m ≡ n
same_number m n hm hn e = decimal_injective m n (omega arith) (omega arith) e

same_row : (a b : TableRow) → a.period ≡ b.period → a.demand ≡ b.demand → a.blocking ≡ b.blocking → a.spare ≡ b.spare → a ≡ b
same_row a b period demand blocking spare = grind (arith, nat_tests)

rows_alike : (j : ℕ) (a b : TableRow) → IsLevelRow a → IsLevelRow b → level_words j a ≡ level_words j b → a ≡ b
rows_alike j a b ha hb e = grind (arith, nat_tests, same_row, same_number)

pub one_level : (j : ℕ) (a b : TableRow) → j < 12 → IsLevelRow a → IsLevelRow b → level_body j a ≡ level_body j b → a ≡ b
one_level j a b few ha hb e =
    rows_alike j a b ha hb (sym (cut_level j a) ∙ ap words_of e ∙ cut_level j b)

same_process : (a b : ProcessLine) → a.name ≡ b.name → a.level ≡ b.level → a.budget ≡ b.budget → a ≡ b
same_process a b name level budget = grind (arith, nat_tests)

processes_alike : (levels : ℕ) (a b : ProcessLine) → levels ≤ 12 → IsProcessLine levels a → IsProcessLine levels b → process_words a ≡ process_words b → a ≡ b
processes_alike levels a b few ha hb e = grind (arith, nat_tests, same_process, same_number)

pub one_process : (levels : ℕ) (a b : ProcessLine) → levels ≤ 12 → IsProcessLine levels a → IsProcessLine levels b → process_body a ≡ process_body b → a ≡ b
one_process levels a b few ha hb e =
    processes_alike levels a b few ha hb (sym (cut_process a ha.name) ∙ ap words_of e ∙ cut_process b hb.name)

abbrev is_dot : ℕ → Bool
is_dot b = b == 46

no_dots : (w : List ℕ) → list_all is_no_dot w ≡ true → All (λ b. is_dot b ≡ false) w
no_dots w h = λ i d l. all_no_dots w h i d l

bytes_same : {a b : List ℕ} → a ≡ b → bytes_eq a b ≡ true
bytes_same {a} {b} e = (bytes_eq-Decides a b).1 e

-- a number of its own for each word of a line
abbrev pub word_rank : List ℕ → ℕ
word_rank w = if bytes_eq w (codes "kernel") then 1 else (if bytes_eq w (codes "in") then 2 else (if bytes_eq w (codes "run") then 3 else (if bytes_eq w (codes "call") then 4 else (if bytes_eq w (codes "out") then 5 else (if bytes_eq w (codes "slack") then 6 else (if bytes_eq w (codes "idle") then 7 else (if bytes_eq w (codes "wait") then 8 else (if bytes_eq w (codes "exit") then 9 else (if bytes_eq w (codes "fault") then 10 else (if bytes_eq w (codes "create") then 11 else (if bytes_eq w (codes "delete") then 12 else (if bytes_eq w (codes "lock") then 13 else (if bytes_eq w (codes "unlock") then 14 else (if bytes_eq w (codes "put") then 15 else (if bytes_eq w (codes "refused") then 16 else (if bytes_eq w (codes "fetch") then 17 else (if bytes_eq w (codes "decode") then 18 else (if bytes_eq w (codes "memory") then 19 else (if bytes_eq w (codes "divide") then 20 else (if bytes_eq w (codes "hold") then 21 else (if bytes_eq w (codes "timeline") then 22 else (if bytes_eq w (codes "reclaimed") then 23 else (0)))))))))))))))))))))))

abbrev pub head_of : List (List ℕ) → List ℕ
head_of [] = []
head_of (w ∷ ws) = w

abbrev work_rank : Work → ℕ
work_rank Work.In = 2
work_rank Work.Run = 3
work_rank Work.Call = 4

work_ranked : (work : Work) → word_rank (work_text work) ≡ work_rank work
work_ranked work = grind (arith, nat_tests)

work_alike : (a b : Work) → work_rank a ≡ work_rank b → a ≡ b
work_alike a b e = grind (arith, nat_tests)

one_work : (a b : Work) → work_text a ≡ work_text b → a ≡ b
one_work a b e = work_alike a b (sym (work_ranked a) ∙ ap word_rank e ∙ work_ranked b)

abbrev fault_rank : FaultKind → ℕ
fault_rank FaultKind.Fetch = 17
fault_rank FaultKind.Decode = 18
fault_rank FaultKind.Memory = 19
fault_rank FaultKind.Divide = 20
fault_rank FaultKind.Call = 4
fault_rank FaultKind.Hold = 21

fault_ranked : (kind : FaultKind) → word_rank (fault_text kind) ≡ fault_rank kind
fault_ranked kind = grind (arith, nat_tests)

fault_alike : (a b : FaultKind) → fault_rank a ≡ fault_rank b → a ≡ b
fault_alike a b e = grind (arith, nat_tests)

one_fault : (a b : FaultKind) → fault_text a ≡ fault_text b → a ≡ b
one_fault a b e = fault_alike a b (sym (fault_ranked a) ∙ ap word_rank e ∙ fault_ranked b)

one_refusal : (a b : Refusal) → number a ≡ number b → a ≡ b
one_refusal a b e = grind (arith, nat_tests)

abbrev pub label_rank : Label → ℕ
label_rank (Label.Kernel j) = 1
label_rank (Label.In x) = 2
label_rank (Label.Run x) = 3
label_rank (Label.Call x) = 4
label_rank (Label.Out x) = 5
label_rank (Label.Slack x source work) = 6
label_rank Label.Idle = 7

pub label_ranked : (h : Heading) (label : Label) (more : List (List ℕ)) → word_rank (head_of (label_words h label more)) ≡ label_rank label
label_ranked h label more = grind (arith, nat_tests)

abbrev event_rank : Event → ℕ
event_rank event = word_rank (word_of event)

is_ranked : (event : Event) → (0 == event_rank event) ≡ false
is_ranked event = grind (arith, nat_tests)

second_word : {v w x y : List ℕ} {vs ws : List (List ℕ)} → v ∷ x ∷ vs ≡ w ∷ y ∷ ws → x ≡ y
second_word e = cc

behind_two : {v w x y : List ℕ} {vs ws : List (List ℕ)} → v ∷ x ∷ vs ≡ w ∷ y ∷ ws → vs ≡ ws
behind_two e = cc

behind_one : {v w : List ℕ} {vs ws : List (List ℕ)} → v ∷ vs ≡ w ∷ ws → vs ≡ ws
behind_one e = cc

first_one : {v w : List ℕ} {vs ws : List (List ℕ)} → v ∷ vs ≡ w ∷ ws → v ≡ w
first_one e = cc

same_line : (a b : LedgerLine) → a.start ≡ b.start → a.count ≡ b.count → a.label ≡ b.label → a.event ≡ b.event → a ≡ b
same_line a b start count label event = grind (arith, nat_tests)

module _ (h : Heading) (few : length h.levels ≤ 12) (names : list_all (λ p. is_name p.name) h.processes ≡ true) (own_names : HaveOwnNames h) where
  cut_thread : (x : ThreadId) → HasThread (size_in h) x → slice_split is_dot (thread_text h x) ≡ name_of h x.process ∷ decimal x.serial ∷ []
  cut_thread x is =
      ap (slice_split is_dot) (append_assoc (name_of h x.process) (codes ".") (decimal x.serial))
      ∙ slice_split_at is_dot (name_of h x.process) 46 (decimal x.serial) (no_dots (name_of h x.process) (name_at_no_dots h x.process names is.0)) refl
      ∙ ap (λ rest. name_of h x.process ∷ rest) (slice_split_none is_dot (decimal x.serial) (no_dots (decimal x.serial) (decimal_no_dots x.serial (let small = is.1 in omega (arith, small)))))

  one_name : (p q : ℕ) → p < length h.processes → q < length h.processes → name_of h p ≡ name_of h q → p ≡ q
  one_name p q lp lq e = elim (cases_order p q) as (λ _. p ≡ q) [
    | inl same ↦ same
    | inr other ↦ elim other as (λ _. p ≡ q) [
      | inl less ↦ absurd (one_side (bytes_same e) (own_names p q less lq))
      | inr more ↦ absurd (one_side (bytes_same (sym e)) (own_names q p more lp))
    ]
  ]

  threads_alike : (x y : ThreadId) → HasThread (size_in h) x → HasThread (size_in h) y → thread_text h x ≡ thread_text h y → x ≡ y
  threads_alike x y hx hy e =
      let parts = sym (cut_thread x hx) ∙ ap (slice_split is_dot) e ∙ cut_thread y hy in
      let name : name_of h x.process ≡ name_of h y.process = cc in
      let serial_text : decimal x.serial ≡ decimal y.serial = cc in
      make-id x y (one_name x.process y.process hx.0 hy.0 name) (same_number x.serial y.serial hx.1 hy.1 serial_text)

  level_number : (m n : ℕ) → m < length h.levels → n < length h.levels → decimal m ≡ decimal n → m ≡ n
  level_number m n hm hn e = same_number m n (omega (arith, hm, few)) (omega (arith, hn, few)) e

  source_alike : (a b : Source) (wa wb : List (List ℕ)) → HasSource (size_in h) a → HasSource (size_in h) b → source_words a wa ≡ source_words b wb → (a ≡ b) × (wa ≡ wb)
  source_alike a b wa wb ha hb e = grind (arith, nat_tests, behind_one, level_number, second_word, behind_two, eqb-false)

  label_alike : (a b : Label) (wa wb : List (List ℕ)) → HasLabel (size_in h) a → HasLabel (size_in h) b → label_rank a ≡ label_rank b → label_words h a wa ≡ label_words h b wb → (a ≡ b) × (wa ≡ wb)
  label_alike (Label.Kernel i) (Label.Kernel j) wa wb ha hb r e = (ap Label.Kernel (level_number i j ha hb (second_word e)), behind_two e)
  label_alike (Label.In x) (Label.In y) wa wb ha hb r e = (ap Label.In (threads_alike x y ha hb (second_word e)), behind_two e)
  label_alike (Label.Run x) (Label.Run y) wa wb ha hb r e = (ap Label.Run (threads_alike x y ha hb (second_word e)), behind_two e)
  label_alike (Label.Call x) (Label.Call y) wa wb ha hb r e = (ap Label.Call (threads_alike x y ha hb (second_word e)), behind_two e)
  label_alike (Label.Out x) (Label.Out y) wa wb ha hb r e = (ap Label.Out (threads_alike x y ha hb (second_word e)), behind_two e)
  label_alike (Label.Slack x s w) (Label.Slack y t v) wa wb ha hb r e =
      let source = source_alike s t _ _ ha.1 hb.1 (behind_one e) in
      let work = one_work w v (first_one source.1) in
      let thread = threads_alike x y ha.0 hb.0 (second_word source.1) in
      (ap (λ z. Label.Slack z s w) thread ∙ ap (λ z. Label.Slack y z w) source.0 ∙ ap (λ z. Label.Slack y t z) work, behind_two source.1)
  label_alike Label.Idle Label.Idle wa wb ha hb r e = (refl, behind_one e)
  label_alike a b wa wb ha hb r e = absurd (eqb-false (label_rank a) (label_rank b) refl r)

  one_label : (a b : Label) (wa wb : List (List ℕ)) → HasLabel (size_in h) a → HasLabel (size_in h) b → label_words h a wa ≡ label_words h b wb → (a ≡ b) × (wa ≡ wb)
  one_label a b wa wb ha hb e = label_alike a b wa wb ha hb (sym (label_ranked h a wa) ∙ ap (λ ws. word_rank (head_of ws)) e ∙ label_ranked h b wb) e

  mutex_number : (m n : ℕ) → m < 16 → n < 16 → decimal m ≡ decimal n → m ≡ n
  mutex_number m n hm hn e = same_number m n (omega arith) (omega arith) e

  refusal_number : (a b : Refusal) → decimal (number a) ≡ decimal (number b) → a ≡ b
  refusal_number a b e = grind (arith, nat_tests, refusal_small, one_refusal, same_number)

  event_alike : (k l : Label) (a b : Event) → HasOwnEvent (size_in h) k (Some a) → HasOwnEvent (size_in h) l (Some b) → event_rank a ≡ event_rank b → event_words (Some a) ≡ event_words (Some b) → a ≡ b
  event_alike k l a b ha hb r e = grind (arith, nat_tests, one_fault, second_word, same_number, level_number, first_one, behind_two, mutex_number, refusal_number)

  one_event : (k l : Label) (a b : Option Event) → HasOwnEvent (size_in h) k a → HasOwnEvent (size_in h) l b → event_words a ≡ event_words b → a ≡ b
  one_event k l None None ha hb e = refl
  one_event k l None (Some b) ha hb e = absurd (eqb-false 0 (event_rank b) (is_ranked b) (ap (λ ws. word_rank (head_of ws)) e))
  one_event k l (Some a) None ha hb e = absurd (eqb-false 0 (event_rank a) (is_ranked a) (ap (λ ws. word_rank (head_of ws)) (sym e)))
  one_event k l (Some a) (Some b) ha hb e = ap Some (event_alike k l a b ha hb (ap (λ ws. word_rank (head_of ws)) e) e)

  pub one_line : (a b : LedgerLine) → IsReadableLine h a → IsReadableLine h b → line_body h a ≡ line_body h b → a ≡ b
  one_line a b ha hb e =
      let short = ha.short in
      let short2 = hb.short in
      let cut_a = cut_line h names a in
      let cut_b = cut_line h names b in
      let words = sym cut_a ∙ ap words_of e ∙ cut_b in
      let label = one_label a.label b.label _ _ ha.label hb.label (behind_two words) in
      same_line a b (same_number a.start b.start (omega (arith, short)) (omega (arith, short2)) (first_one words))
      (same_number a.count b.count (omega (arith, short)) (omega (arith, short2)) (second_word words)) label.0 (one_event a.label b.label a.event b.event ha.event hb.event label.1)

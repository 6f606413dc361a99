-- Words that a byte parts which none of them has can be read back.
use Rattle.std.proofs.Common.{ℕ, ◌≡◌, ◌∙◌, ◌++◌, [], ◌∷◌, List, length, sym, ap, refl, append_assoc, append-nil}
use Rattle.std.specs.Prelude.{Bool, true, false, decimal, Option, Some, None}
use Rattle.std.specs.List.{AllByRecursion, list_all}
use Rattle.dk_trace.specs.declared.ThreadId.{ThreadId}
use Rattle.dk_trace.specs.declared.Source.{Source}
use Rattle.dk_trace.specs.declared.Label.{Label}
use Rattle.dk_trace.specs.declared.Event.{Event}
use Rattle.dk_trace.specs.Entries.{thread_of}
use Rattle.dk_ledger.specs.declared.line.LedgerLine.{LedgerLine}
use Rattle.dk_ledger.specs.Heading.{Heading, IsPrintable}
use Rattle.dk_ledger.specs.LineText.{event_text, line_body, thread_text}
use Rattle.dk_ledger.specs.Words.{event_words, is_spelled, label_words, line_words}
use Rattle.dk_ledger.specs.Readable.{IsReadableHeading}
use Rattle.dk_ledger.proofs.EntryLists.{IsReadableLine}
use Rattle.dk_ledger.proofs.NextItem.{names_fit}
use Rattle.dk_ledger.proofs.OneText.{one_line}
use Rattle.dk_ledger.proofs.Spelled.{line_spelled}
use Rattle.dk_ledger.proofs.Split.{line_parted}
use Rattle.dk_groups.proofs.ListParts.{first_same, rest_same}
use Rattle.dk_groups.proofs.Until.{until}
use Rattle.dk_entry_words.specs.Works.{work_words}
use Rattle.dk_entry_words.specs.Parted.{behind, parted}

-- ---- with blanks as a ledger has them

pub line_blanks : (h : Heading) (l : LedgerLine) → parted 32 (line_words h l) ≡ line_body h l
line_blanks h l = sym (line_parted h l)

pub event_blanks : (event : Event) → parted 32 (event_words (Some event)) ≡ event_text event
event_blanks event = refl

-- ---- words behind others

pub behind_both : (sep : ℕ) (ws vs : List (List ℕ)) → behind sep (ws ++ vs) ≡ behind sep ws ++ behind sep vs
behind_both sep [] vs = refl
behind_both sep (w ∷ ws) vs = ap (λ t. sep ∷ (w ++ t)) (behind_both sep ws vs) ∙ ap (λ t. sep ∷ t) (sym (append_assoc w (behind sep ws) (behind sep vs)))

label_more : (h : Heading) (label : Label) (more : List (List ℕ)) → label_words h label more ≡ label_words h label [] ++ more
label_more h (Label.Kernel j) more = refl
label_more h (Label.In x) more = refl
label_more h (Label.Run x) more = refl
label_more h (Label.Call x) more = refl
label_more h (Label.Out x) more = refl
label_more h (Label.Slack x Source.Timeline work) more = refl
label_more h (Label.Slack x (Source.Reclaimed j) work) more = refl
label_more h Label.Idle more = refl

-- the thread behind what a tick of the label is for
abbrev pub thread_behind : ℕ → Heading → Option ThreadId → List ℕ
thread_behind sep h None = []
thread_behind sep h (Some x) = sep ∷ thread_text h x

slack_whole : (sep : ℕ) (ws : List (List ℕ)) (t : List ℕ) → behind sep (ws ++ t ∷ []) ≡ behind sep ws ++ sep ∷ t
slack_whole sep ws t = behind_both sep ws (t ∷ []) ∙ ap (λ x. behind sep ws ++ sep ∷ x) (append-nil t)

pub label_whole : (sep : ℕ) (h : Heading) (label : Label) → behind sep (label_words h label []) ≡ sep ∷ (parted sep (work_words label) ++ thread_behind sep h (thread_of label))
label_whole sep h (Label.Kernel j) = sym (append-nil (behind sep (work_words (Label.Kernel j))))
label_whole sep h (Label.In x) = slack_whole sep (work_words (Label.In x)) (thread_text h x)
label_whole sep h (Label.Run x) = slack_whole sep (work_words (Label.Run x)) (thread_text h x)
label_whole sep h (Label.Call x) = slack_whole sep (work_words (Label.Call x)) (thread_text h x)
label_whole sep h (Label.Out x) = slack_whole sep (work_words (Label.Out x)) (thread_text h x)
label_whole sep h (Label.Slack x Source.Timeline work) = slack_whole sep (work_words (Label.Slack x Source.Timeline work)) (thread_text h x)
label_whole sep h (Label.Slack x (Source.Reclaimed j) work) = slack_whole sep (work_words (Label.Slack x (Source.Reclaimed j) work)) (thread_text h x)
label_whole sep h Label.Idle = sym (append-nil (behind sep (work_words Label.Idle)))

pub label_behind : (sep : ℕ) (h : Heading) (label : Label) (more : List (List ℕ)) → behind sep (label_words h label more) ≡ behind sep (label_words h label []) ++ behind sep more
label_behind sep h label more = ap (behind sep) (label_more h label more) ∙ behind_both sep (label_words h label []) more

-- ---- where a word and the words end

-- of words whose bytes have a property that neither the byte between them nor the one behind all of them has
module _ (p : ℕ → Bool) (sep stop : ℕ) (parts : p sep ≡ false) (stops : p stop ≡ false) (other : sep ≡ stop → ⊥) where
  -- behind a word comes one of the two
  record Stop (t : List ℕ) : Type 0 where
    at : ℕ
    rest : List ℕ
    is : t ≡ at ∷ rest
    stopped : p at ≡ false

  stop_behind : (ws : List (List ℕ)) (x : List ℕ) → Stop (behind sep ws ++ stop ∷ x)
  stop_behind [] x = record { at = stop; rest = x; is = refl; stopped = stops }
  stop_behind (w ∷ ws) x = record { at = sep; rest = (w ++ behind sep ws) ++ stop ∷ x; is = refl; stopped = parts }

  word_before : (w v t u : List ℕ) → list_all p w ≡ true → list_all p v ≡ true → Stop t → Stop u → w ++ t ≡ v ++ u → (w ≡ v) × (t ≡ u)
  word_before w v t u pw pv st su e =
      let both = until p w v st.at su.at st.rest su.rest pw pv st.stopped su.stopped (ap (λ z. w ++ z) (sym st.is) ∙ e ∙ ap (λ z. v ++ z) su.is) in
      (both.0, st.is ∙ both.1 ∙ sym su.is)

  abbrev All : List (List ℕ) → Type 0
  All ws = AllByRecursion (λ w. list_all p w ≡ true) ws

  behind_same : (ws vs : List (List ℕ)) (x y : List ℕ) → All ws → All vs → behind sep ws ++ stop ∷ x ≡ behind sep vs ++ stop ∷ y → (ws ≡ vs) × (x ≡ y)
  behind_same [] [] x y pw pv e = (refl, rest_same e)
  behind_same [] (v ∷ vs) x y pw pv e = absurd (other (sym (first_same e)))
  behind_same (w ∷ ws) [] x y pw pv e = absurd (other (first_same e))
  behind_same (w ∷ ws) (v ∷ vs) x y pw pv e =
      let own = sym (append_assoc w (behind sep ws) (stop ∷ x)) ∙ rest_same e ∙ append_assoc v (behind sep vs) (stop ∷ y) in
      let first = word_before w v _ _ pw.0 pv.0 (stop_behind ws x) (stop_behind vs y) own in
      let rest = behind_same ws vs x y pw.1 pv.1 first.1 in
      (ap (λ t. t ∷ ws) first.0 ∙ ap (λ ts. v ∷ ts) rest.0, rest.1)

  pub parted_same : (w v : List ℕ) (ws vs : List (List ℕ)) (x y : List ℕ) → All (w ∷ ws) → All (v ∷ vs)
      → parted sep (w ∷ ws) ++ stop ∷ x ≡ parted sep (v ∷ vs) ++ stop ∷ y → (w ∷ ws ≡ v ∷ vs) × (x ≡ y)
  parted_same w v ws vs x y pw pv e =
      let own = sym (append_assoc w (behind sep ws) (stop ∷ x)) ∙ e ∙ append_assoc v (behind sep vs) (stop ∷ y) in
      let first = word_before w v _ _ pw.0 pv.0 (stop_behind ws x) (stop_behind vs y) own in
      let rest = behind_same ws vs x y pw.1 pv.1 first.1 in
      (ap (λ t. t ∷ ws) first.0 ∙ ap (λ ts. v ∷ ts) rest.0, rest.1)

module _ (sep stop : ℕ) (parts : is_spelled sep ≡ false) (stops : is_spelled stop ≡ false) (other : sep ≡ stop → ⊥) where
  pub line_same : (h : Heading) (a b : LedgerLine) (x y : List ℕ) → IsPrintable h → parted sep (line_words h a) ++ stop ∷ x ≡ parted sep (line_words h b) ++ stop ∷ y
      → (line_body h a ≡ line_body h b) × (x ≡ y)
  line_same h a b x y is e =
      let words = parted_same is_spelled sep stop parts stops other (decimal a.start) (decimal b.start) (decimal a.count ∷ label_words h a.label (event_words a.event)) (decimal b.count ∷ label_words h b.label (event_words b.event)) x y (line_spelled h is.names a) (line_spelled h is.names b) e in
      (line_parted h a ∙ ap (parted 32) words.0 ∙ line_blanks h b, words.1)

-- ---- of a header that can be read

pub printable : (h : Heading) → IsReadableHeading h → IsPrintable h
printable h is = record { levels = is.few_levels; processes = is.few_processes; names = names_fit (length h.levels) h.processes is.processes }

pub line_back : (sep stop : ℕ) → is_spelled sep ≡ false → is_spelled stop ≡ false → (sep ≡ stop → ⊥) → (h : Heading) → IsReadableHeading h
    → (a b : LedgerLine) (x y : List ℕ) → IsReadableLine h a → IsReadableLine h b
    → parted sep (line_words h a) ++ stop ∷ x ≡ parted sep (line_words h b) ++ stop ∷ y → (a ≡ b) × (x ≡ y)
line_back sep stop parts stops other h is a b x y pa pb e =
    let same = line_same sep stop parts stops other h a b x y (printable h is) e in
    (one_line h is.few_levels (names_fit (length h.levels) h.processes is.processes) is.own_names a b pa pb same.0, same.1)

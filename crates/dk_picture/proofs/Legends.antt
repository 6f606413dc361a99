-- The legend of the code is that of the definitions, and names what is drawn.
use Rattle.dk_picture.proofs.Names.{ℕ, ◌≡◌, ◌++◌, List, refl, sym, inl, inr, ◌⊎◌, Event, Label, Source, Work, Has, arguments_of, word_of, argument_words, event_text, behind, event_blanks, LEGEND, WINDOWS_HEAD, class_of, meaning_of, meanings, named_classes}
use Rattle.std.specs.Fmt.{digits}
use Rattle.std.proofs.Common.{rules}
use Rattle.dk_picture.specs.Elements.{rect_head, words_at}
use Rattle.dk_picture.specs.Legends.{legend_rows}
use Rattle.dk_picture.specs.Windows.{windows_head}

pub legend_is : LEGEND.now ≡ legend_rows
unfolding digits rect_head legend_rows
legend_is = refl

pub head_is : WINDOWS_HEAD.now ≡ windows_head
unfolding digits words_at windows_head
head_is = refl

pub classes_named : (label : Label) → (label ≡ Label.Idle) ⊎ Has named_classes (class_of label)
classes_named (Label.Kernel j) = inr (inl refl)
classes_named (Label.In x) = inr (inr (inl refl))
classes_named (Label.Out x) = inr (inr (inr (inl refl)))
classes_named (Label.Run x) = inr (inr (inr (inr (inl refl))))
classes_named (Label.Call x) = inr (inr (inr (inr (inr (inl refl)))))
classes_named (Label.Slack x Source.Timeline Work.In) = inr (inr (inr (inr (inr (inr (inl refl))))))
classes_named (Label.Slack x Source.Timeline Work.Run) = inr (inr (inr (inr (inr (inr (inr (inl refl)))))))
classes_named (Label.Slack x Source.Timeline Work.Call) = inr (inr (inr (inr (inr (inr (inr (inr (inl refl))))))))
classes_named (Label.Slack x (Source.Reclaimed j) Work.In) = inr (inr (inr (inr (inr (inr (inr (inr (inr (inl refl)))))))))
classes_named (Label.Slack x (Source.Reclaimed j) Work.Run) = inr (inr (inr (inr (inr (inr (inr (inr (inr (inr (inl refl))))))))))
classes_named (Label.Slack x (Source.Reclaimed j) Work.Call) = inr (inr (inr (inr (inr (inr (inr (inr (inr (inr (inr (inl refl)))))))))))
classes_named Label.Idle = inl refl

pub marks_named : (e : Event) → Has meanings (meaning_of e)
marks_named Event.Wait = inl refl
marks_named event = search rules

pub words_begin : (e : Event) → (rest : List ℕ) × (event_text e ≡ word_of e ++ rest)
words_begin e = (behind 32 (argument_words (arguments_of e)), sym (event_blanks e))

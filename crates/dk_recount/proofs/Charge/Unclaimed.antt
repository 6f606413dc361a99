-- The unclaimed ticks are those of the tick's label, whatever its event is, as long as who paid for a tick keeps its level.
use Rattle.dk_recount.proofs.Names.{◌≡◌, ◌∙◌, inl, inr, List, ◌∷◌, length, Option, Some, None, refl, ap, sym, option_map_or, option_or, Configuration, ThreadId, Entry, kernel_level, payer, quiet, Has, threads, level_of, contains-has, counted, unclaimed_of, TickCountsUnclaimed, threads-charged}

pub unclaimed-kept : TickCountsUnclaimed → (c : Configuration) (e : Entry) (past : List Entry)
    → ((t : Entry) (x : ThreadId) → Has (e ∷ past) t → payer t.label ≡ Some x → level_of (threads c (e ∷ past)) x ≡ level_of (threads c past) x)
    → unclaimed_of c (length past) (e ∷ past) ≡ unclaimed_of c (length past) (quiet e.label ∷ past)
unclaimed-kept counts c e past levels =
    sym (counts c past e (λ t x has pays. levels t x (inr (contains-has past t has)) pays))
    ∙ ap (λ o. counted (option_or (kernel_level e.label) o) (unclaimed_of c (length past) past)) (claim (payer e.label) refl)
    ∙ counts c past (quiet e.label) (λ t x has pays. ap (λ xs. level_of xs x) (threads-charged c e.label past))
  where
    claim : (o : Option ThreadId) → payer e.label ≡ o
        → option_map_or (level_of (threads c (e ∷ past))) o None ≡ option_map_or (level_of (threads c (quiet e.label ∷ past))) o None
    claim None is = refl
    claim (Some x) is = levels e x (inl refl) is ∙ ap (λ xs. level_of xs x) (sym (threads-charged c e.label past))

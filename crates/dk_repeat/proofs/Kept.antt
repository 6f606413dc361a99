-- An entry that neither makes nor stops a thread.
use Rattle.dk_repeat.proofs.Names.{ℕ, ◌≡◌, Bool, true, false, cond, List, [], ◌∷◌, ◌++◌, length, Option, Some, None, refl, sym, ap, ◌∙◌, append-nil, map, is_some, option_or, option_map_or, then_some, and-false, Configuration, or-none, ThreadId, Event, Entry, is_of, stops, is_end, is_delete_of, Thread, family, after_entry, made_by, main_id, keeps_threads, standing}

-- such an event ends nothing and makes nothing
pub record Idle (c : Configuration) (p n : ℕ) (event : Option Event) : Type 0 where
  pub ends : option_map_or is_end event false ≡ false
  pub deletes : (serial : ℕ) → option_map_or (is_delete_of serial) event false ≡ false
  pub makes : made_by c p n event ≡ []

pub idle : (c : Configuration) (p n : ℕ) (event : Option Event) → option_map_or keeps_threads event true ≡ true → Idle c p n event
idle c p n None h = record { ends = refl; deletes = λ s. refl; makes = refl }
idle c p n (Some (Event.Create serial level quota)) h = absurd (cc)
idle c p n (Some (Event.Delete serial)) h = absurd (cc)
idle c p n (Some Event.Exit) h = absurd (cc)
idle c p n (Some (Event.Fault kind)) h = absurd (cc)
idle c p n (Some event) h = record { ends = refl; deletes = λ s. refl; makes = refl }

pub stops-none : (c : Configuration) (p n : ℕ) (x : ThreadId) (e : Entry) → Idle c p n e.event → stops x e ≡ false
stops-none c p n x e i = rw (i.ends, i.deletes x.serial) (simp and-false)

rows-kept : (n : ℕ) (e : Entry) (xs : List Thread) → ((x : ThreadId) → stops x e ≡ false) → map standing (map (after_entry e n) xs) ≡ map standing xs
rows-kept n e [] none = refl
rows-kept n e (x ∷ xs) none =
    let stop : option_or x.stop (then_some (stops x.id e) n) ≡ x.stop = rw (none x.id) (or-none x.stop) in
    ap (λ (o : Option ℕ). record { id = x.id; level = x.level; quota = x.quota; stopped = is_some o } ∷ map standing (map (after_entry e n) xs)) stop
    ∙ ap (λ rest. standing x ∷ rest) (rows-kept n e xs none)

pub threads-kept : (c : Configuration) (e : Entry) (past : List Entry) → option_map_or keeps_threads e.event true ≡ true → (p : ℕ)
    → map standing (family c p past) ≡ map standing (family c p (e ∷ past))
threads-kept c e past keeps p =
    let n = length past in
    let i = idle c p n e.event keeps in
    let old : List Thread = map (after_entry e n) (family c p past) in
    let made : cond (is_of (main_id p) e) (made_by c p n e.event) [] ≡ [] = at (is_of (main_id p) e) (made_by c p n e.event) i.makes in
    sym (ap (λ new. map standing (old ++ new)) made ∙ ap (map standing) (append-nil old) ∙ rows-kept n e (family c p past) (λ x. stops-none c p n x e i))
  where
    at : (b : Bool) (xs : List Thread) → xs ≡ [] → cond b xs [] ≡ []
    at true xs is = is
    at false xs is = refl

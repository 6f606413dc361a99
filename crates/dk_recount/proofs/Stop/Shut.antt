-- Threads that are shut one after the other.
use Rattle.dk_recount.proofs.Names.{◌≡◌, ◌+◌, ◌*◌, inl, inr, ℕ, zero, suc, List, [], ◌∷◌, ◌++◌, drop, refl, arith, add-one, filter, cases_Bool, ThreadRow, is_running, Tables, shut, shut_all, MayShutAll, running_at}

pub shut-join : (xs ys : List ThreadRow) (d : Tables) → shut_all (xs ++ ys) d ≡ shut_all ys (shut_all xs d)
shut-join [] ys d = refl
shut-join (x ∷ xs) ys d = shut-join xs ys (shut x d)

pub may-first : (xs ys : List ThreadRow) (d : Tables) → MayShutAll (xs ++ ys) d → MayShutAll xs d
may-first [] ys d may = tt
may-first (x ∷ xs) ys d may = (may.0, may-first xs ys (shut x d) may.1)

pub may-rest : (xs ys : List ThreadRow) (d : Tables) → MayShutAll (xs ++ ys) d → MayShutAll ys (shut_all xs d)
may-rest [] ys d may = may
may-rest (x ∷ xs) ys d may = may-rest xs ys (shut x d) may.1

pub shut-threads : (xs : List ThreadRow) (d : Tables) → (shut_all xs d).threads ≡ d.threads
shut-threads [] d = refl
shut-threads (x ∷ xs) d = shut-threads xs (shut x d)

pub shut-kernel : (xs : List ThreadRow) (d : Tables) → (shut_all xs d).kernel ≡ d.kernel
shut-kernel [] d = refl
shut-kernel (x ∷ xs) d = shut-kernel xs (shut x d)

next : (rows : List ThreadRow) (i : ℕ) → filter is_running (drop i rows) ≡ running_at rows i ++ filter is_running (drop (suc i) rows)
next [] zero = refl
next [] (suc i) = refl
next (row ∷ rows) zero = elim (cases_Bool (is_running row)) [ inl on ↦ rw on refl | inr off ↦ rw off refl ]
next (row ∷ rows) (suc i) = next rows i

pub next-running : (rows : List ThreadRow) (i : ℕ) → filter is_running (drop i rows) ≡ running_at rows i ++ filter is_running (drop (i + 1) rows)
next-running rows i = rw add-one (next rows i)

pub shut-loans : (xs : List ThreadRow) (d : Tables) → (shut_all xs d).loans ≡ d.loans
shut-loans [] d = refl
shut-loans (x ∷ xs) d = shut-loans xs (shut x d)

pub shut-windows : (xs : List ThreadRow) (d : Tables) → (shut_all xs d).demand.windows ≡ d.demand.windows
shut-windows [] d = refl
shut-windows (x ∷ xs) d = shut-windows xs (shut x d)

pub shut-releases : (xs : List ThreadRow) (d : Tables) → (shut_all xs d).releases ≡ d.releases
shut-releases [] d = refl
shut-releases (x ∷ xs) d = shut-releases xs (shut x d)

pub shut-rights : (xs : List ThreadRow) (d : Tables) → (shut_all xs d).rights ≡ d.rights
shut-rights [] d = refl
shut-rights (x ∷ xs) d = shut-rights xs (shut x d)

pub one-more : (m n : ℕ) → m * (1 + n) ≡ m + m * n
one-more m n = grind arith

-- Runs of zeros.
use Rattle.std.proofs.Common.{◌≡◌, ℕ, ◌+◌, ◌<◌, ◌≤◌, Bool, true, false, cond, leb, List, [], ◌∷◌, ◌++◌, length, take, drop, get_or, replicate, zero, suc, refl, ap, ◌∙◌, arith, length-drop}
use Rattle.addr_text.specs.Recommended.{IsZeroRun}
use Rattle.addr_text.specs.Canonical.{longer_run, longest_run, zeros_of}
use Rattle.addr_text.specs.declared.run.Run.{Run}
use Rattle.std.proofs.lemmas.Bool.Decides.{nat_tests}

pub zeros_of-le : (groups : List ℕ) → zeros_of groups ≤ length groups
zeros_of-le [] = omega arith
zeros_of-le (zero ∷ groups) = let rest = zeros_of-le groups in omega arith
zeros_of-le (suc g ∷ groups) = omega arith

-- the zeros from a place on are fewer than the groups
pub zeros_of-drop : (groups : List ℕ) (place : ℕ) → zeros_of (drop place groups) ≤ length groups
zeros_of-drop groups place = let few = zeros_of-le (drop place groups) in omega (arith, length-drop place groups)

-- the longest run lies within the list
pub longest_run-within : (groups : List ℕ) → (longest_run groups).start + (longest_run groups).len ≤ length groups
longest_run-within [] = omega arith
longest_run-within (g ∷ groups) = by (longest_run groups) (zeros_of-le (g ∷ groups)) (longest_run-within groups)
  where
    by : (run : Run) → zeros_of (g ∷ groups) ≤ length (g ∷ groups) → run.start + run.len ≤ length groups →
        (longer_run (zeros_of (g ∷ groups)) run).start + (longer_run (zeros_of (g ∷ groups)) run).len ≤ length (g ∷ groups)
    by run here rest = grind (arith, nat_tests)

-- how the groups begin
zeros_front : (groups : List ℕ) → groups ≡ replicate (zeros_of groups) 0 ++ drop (zeros_of groups) groups
zeros_front [] = refl
zeros_front (zero ∷ groups) = ap (λ (gs : List ℕ). 0 ∷ gs) (zeros_front groups)
zeros_front (suc g ∷ groups) = refl

-- the groups before a run, its zeros, and the groups after it
abbrev pub IsParted : List ℕ → Run → Type 0
IsParted groups run = groups ≡ take run.start groups ++ (replicate run.len 0 ++ drop (run.start + run.len) groups)

parted-front : (groups : List ℕ) → IsParted groups (record { start = 0; len = zeros_of groups })
parted-front groups = zeros_front groups ∙ ap (λ (k : ℕ). replicate (zeros_of groups) 0 ++ drop k groups) {x = zeros_of groups} {y = 0 + zeros_of groups} (omega arith)

parted-cons : (g : ℕ) (groups : List ℕ) (run : Run) → IsParted groups run → IsParted (g ∷ groups) (record { start = run.start + 1; len = run.len })
parted-cons g groups run rest =
    ap (λ (gs : List ℕ). g ∷ gs) rest
    ∙ ap (λ (k : ℕ). take k (g ∷ groups) ++ (replicate run.len 0 ++ drop (run.start + run.len) groups)) {x = suc run.start} {y = run.start + 1} (omega arith)
    ∙ ap (λ (k : ℕ). take (run.start + 1) (g ∷ groups) ++ (replicate run.len 0 ++ drop k (g ∷ groups))) {x = suc (run.start + run.len)} {y = run.start + 1 + run.len} (omega arith)

either_run : (P : Run → Type 0) (b : Bool) (r s : Run) → P r → P s → P (cond b r s)
either_run P true r s p q = p
either_run P false r s p q = q

pub longest_run-parted : (groups : List ℕ) → IsParted groups (longest_run groups)
longest_run-parted [] = refl
longest_run-parted (g ∷ groups) =
    either_run (IsParted (g ∷ groups)) (leb (longest_run groups).len (zeros_of (g ∷ groups))) (record { start = 0; len = zeros_of (g ∷ groups) }) (record { start = (longest_run groups).start + 1; len = (longest_run groups).len })
    (parted-front (g ∷ groups)) (parted-cons g groups (longest_run groups) (longest_run-parted groups))

run_tail : (g : ℕ) (groups : List ℕ) (start len : ℕ) → IsZeroRun (g ∷ groups) (suc start) len → IsZeroRun groups start len
run_tail g groups start len run = record {
  within = let fits = run.within in omega arith;
  zeros = λ k below. ap (λ (i : ℕ). get_or (g ∷ groups) i 0) {x = suc (start + k)} {y = suc start + k} (omega arith) ∙ run.zeros k below;
}

run_cons : (g : ℕ) (groups : List ℕ) (start len : ℕ) → IsZeroRun groups start len → IsZeroRun (g ∷ groups) (start + 1) len
run_cons g groups start len run = record {
  within = let fits = run.within in omega arith;
  zeros = λ k below. ap (λ (i : ℕ). get_or (g ∷ groups) i 0) {x = start + 1 + k} {y = suc (start + k)} (omega arith) ∙ run.zeros k below;
}

-- the zeros in front are a run, and none in front is longer
zeros_run : (groups : List ℕ) → IsZeroRun groups 0 (zeros_of groups)
zeros_run groups = record { within = let few = zeros_of-le groups in omega arith; zeros = λ k below. ap (λ (i : ℕ). get_or groups i 0) {x = 0 + k} {y = k} (omega arith) ∙ at groups k below }
  where
    at : (gs : List ℕ) (k : ℕ) → k < zeros_of gs → get_or gs k 0 ≡ 0
    at [] k below = absurd (omega arith)
    at (zero ∷ gs) zero below = refl
    at (zero ∷ gs) (suc k) below = at gs k (omega arith)
    at (suc g ∷ gs) k below = absurd (omega arith)

run_front : (groups : List ℕ) (len : ℕ) → IsZeroRun groups 0 len → len ≤ zeros_of groups
run_front groups zero run = omega arith
run_front [] (suc len) run = absurd (let fits = run.within in omega arith)
run_front (zero ∷ groups) (suc len) run =
    let rest : len ≤ zeros_of groups = run_front groups len (record {
      within = let fits = run.within in omega arith;
      zeros = λ k below. ap (λ (i : ℕ). get_or (0 ∷ groups) i 0) {x = suc (0 + k)} {y = 0 + suc k} (omega arith) ∙ run.zeros (suc k) (omega arith);
    }) in omega arith
run_front (suc g ∷ groups) (suc len) run = absurd (let first : suc g ≡ 0 = run.zeros 0 (omega arith) in omega arith)

-- the longest run is a run, no run is longer, and none as long begins before it
pub record IsLongest (groups : List ℕ) (run : Run) : Type 0 where
  pub zeros : IsZeroRun groups run.start run.len
  pub longest : (start len : ℕ) → IsZeroRun groups start len → len ≤ run.len
  pub first : (start : ℕ) → IsZeroRun groups start run.len → run.start ≤ start

at_front : (g : ℕ) (groups : List ℕ) (rest : Run) → IsLongest groups rest → rest.len ≤ zeros_of (g ∷ groups) → IsLongest (g ∷ groups) (record { start = 0; len = zeros_of (g ∷ groups) })
at_front g groups rest is most = record { zeros = zeros_run (g ∷ groups); longest = longest; first = λ start run. omega arith }
  where
    longest : (start len : ℕ) → IsZeroRun (g ∷ groups) start len → len ≤ zeros_of (g ∷ groups)
    longest zero len run = run_front (g ∷ groups) len run
    longest (suc start) len run = let less = is.longest start len (run_tail g groups start len run) in omega arith

behind : (g : ℕ) (groups : List ℕ) (rest : Run) → IsLongest groups rest → zeros_of (g ∷ groups) < rest.len → IsLongest (g ∷ groups) (record { start = rest.start + 1; len = rest.len })
behind g groups rest is less = record { zeros = run_cons g groups rest.start rest.len is.zeros; longest = longest; first = first }
  where
    longest : (start len : ℕ) → IsZeroRun (g ∷ groups) start len → len ≤ rest.len
    longest zero len run = let here = run_front (g ∷ groups) len run in omega arith
    longest (suc start) len run = is.longest start len (run_tail g groups start len run)

    first : (start : ℕ) → IsZeroRun (g ∷ groups) start rest.len → rest.start + 1 ≤ start
    first zero run = absurd (let here = run_front (g ∷ groups) rest.len run in omega arith)
    first (suc start) run = let later = is.first start (run_tail g groups start rest.len run) in omega arith

pub longest_run-is : (groups : List ℕ) → IsLongest groups (longest_run groups)
longest_run-is [] = record {
  zeros = record { within = omega arith; zeros = λ k below. absurd (omega arith) };
  longest = λ start len run. (let fits = run.within in omega arith);
  first = λ start run. omega arith;
}
longest_run-is (g ∷ groups) = by (leb (longest_run groups).len (zeros_of (g ∷ groups))) refl (longest_run-is groups)
  where
    by : (b : Bool) → leb (longest_run groups).len (zeros_of (g ∷ groups)) ≡ b → IsLongest groups (longest_run groups) →
        IsLongest (g ∷ groups) (cond b (record { start = 0; len = zeros_of (g ∷ groups) }) (record { start = (longest_run groups).start + 1; len = (longest_run groups).len }))
    by true e is = at_front g groups (longest_run groups) is (grind (arith, nat_tests))
    by false e is = behind g groups (longest_run groups) is (grind (arith, nat_tests))

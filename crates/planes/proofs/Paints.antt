-- The three planes of a row, painted part by part: the laws of Fills, once for samples, front depths and marks.
use Prim.Native.Nat.{ℕ, ◌+◌, ◌<◌, ◌≤◌}
use mathlib.Core.Path.{◌≡◌, ap}
use mathlib.Core.List.{List}
use lib.ListN.{length, set}
use Rattle.model.specs.declared.Pixel.{Pixel}
use Rattle.planes.specs.Parts.{Painted}
use Rattle.planes.proofs.Fills.{filled_none, filled_back, filled_change}

pub painted_none : (g : ℕ → Pixel) (i : ℕ) (s f m : List ℕ) → Painted g i i s f m s f m
painted_none g i s f m =
    record { samples = filled_none 0 _ i s; fronts = filled_none 0 _ i f; marks = filled_none 0 _ i m }

-- one more pixel at the front
pub painted_back : {g : ℕ → Pixel} {i e : ℕ} {s f m s' f' m' s'' f'' m'' : List ℕ} (c : ℕ) (v : Pixel) → Painted g i e s f m s' f' m' → c + 1 ≡ i → i ≤ e → c < length s' → c < length f' → c < length m' → v ≡ g c → s'' ≡ set s' c v.sample → f'' ≡ set f' c v.front → m'' ≡ set m' c v.mark → Painted g c e s f m s'' f'' m''
painted_back {g} {i} {e} {s} {f} {m} {s'} {f'} {m'} c v h z k ls lf lm q es ef em =
    let h' : Painted g (c + 1) e s f m s' f' m' = rw z h in
    let k' : c + 1 ≤ e = rw z k in
    record {
      samples = rw es (filled_back v.sample h'.samples k' ls (ap (λ (p : Pixel). p.sample) q));
      fronts = rw ef (filled_back v.front h'.fronts k' lf (ap (λ (p : Pixel). p.front) q));
      marks = rw em (filled_back v.mark h'.marks k' lm (ap (λ (p : Pixel). p.mark) q));
    }

-- rules that agree in the part
pub painted_change : {g k : ℕ → Pixel} {a b : ℕ} {s f m s' f' m' : List ℕ} → Painted g a b s f m s' f' m' → ((p : ℕ) → a ≤ p → p < b → g p ≡ k p) → Painted k a b s f m s' f' m'
painted_change h e =
    record {
      samples = filled_change h.samples (λ p m n. ap (λ (q : Pixel). q.sample) (e p m n));
      fronts = filled_change h.fronts (λ p m n. ap (λ (q : Pixel). q.front) (e p m n));
      marks = filled_change h.marks (λ p m n. ap (λ (q : Pixel). q.mark) (e p m n));
    }

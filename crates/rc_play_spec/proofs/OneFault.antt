-- A list of faults has one first fault at most.
use Rattle.std.proofs.Common.{◌≡◌, ℕ, ◌<◌, ◌≤◌, Bool, true, false, cond, ◌||◌, ◌&&◌, ◌==◌, ◌⊎◌, inl, inr, List, refl, sym, ap, subst, ◌∙◌, arith, suc, [], ◌∷◌, get_or}
use Rattle.std.specs.Prelude.{IsTrue, nat_le, nat_lt}
use Rattle.std.specs.List.{All, Contains}
use Rattle.std.proofs.lemmas.List.Elements.{All-nil, All-cons}
use Rattle.std.proofs.lemmas.Bool.{cases_lt, and_parts, eqb-true, leb-true}
use Rattle.rc_play_spec.proofs.InOrder.{by_turn, by_offset, by_rank, itself}
use Rattle.rc_play_spec.specs.PlanFault.{turn_of, rank_of, is_told_first, IsFirstOf}
use Rattle.rc_play_spec.specs.declared.plan_fault.PlanKind.{PlanKind}
use Rattle.rc_play_spec.specs.declared.plan_fault.PlanKind.TheVariants.{Shape, Number, Seats, Matches, Turns, TooLarge, Rest}
use Rattle.rc_play_spec.specs.declared.plan_fault.PlanFault.{PlanFault}

-- the kind of this rank
kind_at : ℕ → PlanKind
kind_at rank =
    cond (rank == 0) Shape (cond (rank == 1) Number (cond (rank == 2) Seats (cond (rank == 3) Matches (cond (rank == 4) Turns (cond (rank == 5) TooLarge Rest)))))

kind_of_rank : (kind : PlanKind) → kind_at (rank_of kind) ≡ kind
unfolding kind_at
kind_of_rank Shape = refl
kind_of_rank Number = refl
kind_of_rank Seats = refl
kind_of_rank Matches = refl
kind_of_rank Turns = refl
kind_of_rank TooLarge = refl
kind_of_rank Rest = refl

one_of : (a b : Bool) → (a || b) ≡ true → (a ≡ true) ⊎ (b ≡ true)
one_of true b is = inl refl
one_of false b is = inr is

-- what a fault says that is told before another
abbrev IsBefore : PlanFault → PlanFault → Type 0
IsBefore x y =
    (turn_of x.kind < turn_of y.kind)
    ⊎ ((turn_of x.kind ≡ turn_of y.kind) × ((x.at < y.at) ⊎ ((x.at ≡ y.at) × (rank_of x.kind ≤ rank_of y.kind))))

before : (x y : PlanFault) → is_told_first x y ≡ true → IsBefore x y
before x y is = by_turn (one_of (nat_lt (turn_of x.kind) (turn_of y.kind)) _ is) where
  by_offset : (nat_lt x.at y.at ≡ true) ⊎ ((x.at == y.at && nat_le (rank_of x.kind) (rank_of y.kind)) ≡ true)
      → (x.at < y.at) ⊎ ((x.at ≡ y.at) × (rank_of x.kind ≤ rank_of y.kind))
  by_offset (inl less) = inl (leb-true _ _ less)
  by_offset (inr rest) =
      let both = and_parts (x.at == y.at) (nat_le (rank_of x.kind) (rank_of y.kind)) rest in inr (eqb-true _ _ both.0, leb-true _ _ both.1)

  by_turn : (nat_lt (turn_of x.kind) (turn_of y.kind) ≡ true)
      ⊎ ((turn_of x.kind == turn_of y.kind && (nat_lt x.at y.at || (x.at == y.at && nat_le (rank_of x.kind) (rank_of y.kind)))) ≡ true)
      → IsBefore x y
  by_turn (inl less) = inl (leb-true _ _ less)
  by_turn (inr rest) =
      let both = and_parts (turn_of x.kind == turn_of y.kind) (nat_lt x.at y.at || (x.at == y.at && nat_le (rank_of x.kind) (rank_of y.kind))) rest in
      inr (eqb-true _ _ both.0, by_offset (one_of (nat_lt x.at y.at) _ both.1))

same : (x y : PlanFault) → IsBefore x y → IsBefore y x → (rank_of x.kind ≡ rank_of y.kind) × (x.at ≡ y.at)
same x y (inl less) (inl more) = absurd (omega (arith, less, more))
same x y (inl less) (inr rest) = let e = rest.0 in absurd (omega (arith, less, e))
same x y (inr rest) (inl more) = let e = rest.0 in absurd (omega (arith, e, more))
same x y (inr (e, inl less)) (inr (f, inl more)) = absurd (omega (arith, less, more))
same x y (inr (e, inl less)) (inr (f, inr (at, rank))) = absurd (omega (arith, less, at))
same x y (inr (e, inr (at, rank))) (inr (f, inl more)) = absurd (omega (arith, at, more))
same x y (inr (e, inr (at, rank))) (inr (f, inr (at', rank'))) = (omega (arith, rank, rank'), at)

-- what holds of all holds of one
of_one : (P : PlanFault → Type 0) (faults : List PlanFault) (x : PlanFault) → All P faults → Contains faults x → P x
of_one P faults x all (k, within, is) = subst P is (all k x within)

pub one_first : (faults : List PlanFault) (x y : PlanFault) → IsFirstOf faults x → IsFirstOf faults y → (x.kind ≡ y.kind) × (x.at ≡ y.at)
one_first faults x y first second =
    let forth = of_one (λ other. IsTrue (is_told_first x other)) faults y first.least second.stands in
    let back = of_one (λ other. IsTrue (is_told_first y other)) faults x second.least first.stands in
    let both = same x y (before x y forth) (before y x back) in
    (sym (kind_of_rank x.kind) ∙ ap kind_at both.0 ∙ kind_of_rank y.kind, both.1)

-- A LIST WITH A FAULT HAS A FIRST ONE

lesser : (m n : ℕ) → (m < n) ⊎ ((m ≡ n) ⊎ (n < m))
lesser m n = by (cases_lt m n)
  where
    by_other : n ≤ m → (n < m) ⊎ (m ≤ n) → (m < n) ⊎ ((m ≡ n) ⊎ (n < m))
    by_other least (inl more) = inr (inr more)
    by_other least (inr most) = inr (inl (omega (arith, least, most)))

    by : (m < n) ⊎ (n ≤ m) → (m < n) ⊎ ((m ≡ n) ⊎ (n < m))
    by (inl less) = inl less
    by (inr least) = by_other least (cases_lt n m)

-- one of two is before the other
one_before : (x y : PlanFault) → IsBefore x y ⊎ IsBefore y x
one_before x y = by_turn (lesser (turn_of x.kind) (turn_of y.kind))
  where
    by_rank : turn_of x.kind ≡ turn_of y.kind → x.at ≡ y.at → (rank_of x.kind < rank_of y.kind) ⊎ (rank_of y.kind ≤ rank_of x.kind)
        → IsBefore x y ⊎ IsBefore y x
    by_rank turn at (inl less) = inl (inr (turn, inr (at, omega (arith, less))))
    by_rank turn at (inr most) = inr (inr (sym turn, inr (sym at, most)))

    by_offset : turn_of x.kind ≡ turn_of y.kind → (x.at < y.at) ⊎ ((x.at ≡ y.at) ⊎ (y.at < x.at)) → IsBefore x y ⊎ IsBefore y x
    by_offset turn (inl less) = inl (inr (turn, inl less))
    by_offset turn (inr (inl at)) = by_rank turn at (cases_lt (rank_of x.kind) (rank_of y.kind))
    by_offset turn (inr (inr more)) = inr (inr (sym turn, inl more))

    by_turn : (turn_of x.kind < turn_of y.kind) ⊎ ((turn_of x.kind ≡ turn_of y.kind) ⊎ (turn_of y.kind < turn_of x.kind))
        → IsBefore x y ⊎ IsBefore y x
    by_turn (inl less) = inl (inl less)
    by_turn (inr (inl turn)) = by_offset turn (lesser x.at y.at)
    by_turn (inr (inr more)) = inr (inl more)

-- what is before what is before another is before that
before_both : (x y z : PlanFault) → IsBefore x y → IsBefore y z → IsBefore x z
before_both x y z (inl a) (inl b) = inl (omega (arith, a, b))
before_both x y z (inl a) (inr (b, rest)) = inl (omega (arith, a, b))
before_both x y z (inr (a, rest)) (inl b) = inl (omega (arith, a, b))
before_both x y z (inr (a, inl p)) (inr (b, inl q)) = inr (a ∙ b, inl (omega (arith, p, q)))
before_both x y z (inr (a, inl p)) (inr (b, inr (q, r))) = inr (a ∙ b, inl (omega (arith, p, q)))
before_both x y z (inr (a, inr (p, s))) (inr (b, inl q)) = inr (a ∙ b, inl (omega (arith, p, q)))
before_both x y z (inr (a, inr (p, s))) (inr (b, inr (q, r))) = inr (a ∙ b, inr (p ∙ q, omega (arith, s, r)))

-- it is told first
told : (x y : PlanFault) → IsBefore x y → is_told_first x y ≡ true
told x y (inl less) = by_turn x y less
told x y (inr (turn, inl less)) = by_offset x y turn less
told x y (inr (turn, inr (at, rank))) = by_rank x y turn at rank

pub some_first : (fault : PlanFault) (faults : List PlanFault) → (first : PlanFault) × IsFirstOf (fault ∷ faults) first
some_first fault [] = (
  fault,
  record {
    stands = (0, omega arith, refl);
    least = All-cons (λ other. IsTrue (is_told_first fault other)) fault [] (itself fault) (All-nil (λ other. IsTrue (is_told_first fault other)));
  },
)
some_first fault (second ∷ faults) = by (some_first second faults)
  where
    by_order : (first : PlanFault) → IsFirstOf (second ∷ faults) first → IsBefore fault first ⊎ IsBefore first fault
        → (first : PlanFault) × IsFirstOf (fault ∷ second ∷ faults) first
    by_order first is (inl here) = (
      fault,
      record {
        stands = (0, omega arith, refl);
        least = All-cons (λ other. IsTrue (is_told_first fault other)) fault (second ∷ faults) (itself fault)
            (λ k d lt. told fault (get_or (second ∷ faults) k d) (before_both fault first _ here (before first _ (is.least k d lt))));
      },
    )
    by_order first is (inr there) = (
      first,
      record {
        stands = (suc is.stands.0, (let within = is.stands.1 in omega (arith, within)), is.stands.2);
        least = All-cons (λ other. IsTrue (is_told_first first other)) fault (second ∷ faults) (told first fault there) is.least;
      },
    )

    by : (first : PlanFault) × IsFirstOf (second ∷ faults) first → (first : PlanFault) × IsFirstOf (fault ∷ second ∷ faults) first
    by found = by_order found.0 found.1 (one_before fault found.0)

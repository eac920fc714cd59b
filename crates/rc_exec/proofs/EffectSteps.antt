-- Effects that are done again.
use Rattle.std.proofs.Common.{◌≡◌, ℕ, suc, ◌+◌, ◌-◌, ◌<◌, sym, ap, ◌∙◌, arith}
use Rattle.rc_play_spec.specs.Effects.{again}

-- once more
pub once_more : {A : Type 0} (f : A → A) (n k : ℕ) (now mid last : A) → k < n → f now ≡ mid → again (n - k) f now ≡ last → again (n - (k + 1)) f mid ≡ last
once_more f n k now mid last lt one rest =
    let next : n - k ≡ suc (n - (k + 1)) = omega (arith, lt) in
    ap (again (n - (k + 1)) f) (sym one) ∙ sym (ap (λ m. again m f now) next) ∙ rest

-- The words of keys of four numbers.
use Rattle.std.proofs.Common.{◌≡◌, ℕ, ◌+◌, ◌*◌, ◌/◌, ◌%◌, ◌^◌, ◌<◌, List, [], ◌∷◌, arith, refl, ap₂, ◌∙◌}
use Rattle.rand_core.specs.Steps.{u32_at}
use Rattle.rand_chacha.specs.ChaCha.{key_of}
use Rattle.rc_play_spec.specs.Draws.{key32}

low_bytes : (n : ℕ) → n % 256 + n / 256 ^ 1 % 256 * 2 ^ 8 + n / 256 ^ 2 % 256 * 2 ^ 16 + n / 256 ^ 3 % 256 * 2 ^ 24 ≡ n % 4294967296
low_bytes n = omega arith

high_bytes : (n : ℕ) → n < 2 ^ 64 →
    n / 256 ^ 4 % 256 + n / 256 ^ 5 % 256 * 2 ^ 8 + n / 256 ^ 6 % 256 * 2 ^ 16 + n / 256 ^ 7 % 256 * 2 ^ 24 ≡ n / 4294967296
high_bytes n less = omega (arith, less)

-- the words of a key: the lower and the upper half of each of its numbers
abbrev words_from : ℕ → ℕ → ℕ → ℕ → ℕ → List ℕ
words_from a b c lower upper =
    a % 4294967296 ∷ a / 4294967296 ∷ b % 4294967296 ∷ b / 4294967296
    ∷ c % 4294967296 ∷ c / 4294967296 ∷ lower ∷ upper ∷ []

words_of_key : (a b c d : ℕ) → a < 2 ^ 64 → b < 2 ^ 64 → c < 2 ^ 64 → d < 2 ^ 64 →
    key_of (key32 a b c d) ≡ words_from a b c (d % 4294967296) (d / 4294967296)
unfolding u32_at
words_of_key a b c d la lb lc ld =
    rw (
      low_bytes a,
      high_bytes a la,
      low_bytes b,
      high_bytes b lb,
      low_bytes c,
      high_bytes c lc,
      low_bytes d,
      high_bytes d ld,
    ) refl

pub words_of_numbered : (a b c upper number : ℕ) →
    a < 2 ^ 64 → b < 2 ^ 64 → c < 2 ^ 64 → upper < 2 ^ 32 → number < 2 ^ 32 →
    key_of (key32 a b c (upper * 4294967296 + number)) ≡ words_from a b c number upper
words_of_numbered a b c upper number la lb lc lu ln =
    let d = upper * 4294967296 + number in
    let fits : d < 2 ^ 64 = omega (arith, lu, ln) in
    let low : d % 4294967296 ≡ number = omega (arith, ln) in
    let high : d / 4294967296 ≡ upper = omega (arith, ln) in
    words_of_key a b c d la lb lc fits ∙ ap₂ (words_from a b c) low high

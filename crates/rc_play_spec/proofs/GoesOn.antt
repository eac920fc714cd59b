-- A play goes on from where its first items lead.
use Rattle.std.proofs.Common.{◌≡◌, ℕ, nat_lt, Bool, true, false, if◌then◌else◌, List, [], ◌∷◌, ◌++◌, length, Option, Some, None, refl}
use Rattle.rc_play_spec.specs.About.{About, menu_at}
use Rattle.rc_play_spec.specs.Effects.{Dealing}
use Rattle.rc_play_spec.specs.Step.{Config, Stop, decide, is_done, is_limit, start}
use Rattle.rc_play_spec.specs.Stop.{Stopped, stop_of}
use Rattle.rc_play_spec.specs.Decision.{choose}
use Rattle.rc_play_spec.specs.Play.{from_stop, stop_behind, follow, reached}

module _ (about : About) (dealing : Dealing ℕ) where
  goes_if : (b : Bool) (xs ys : List ℕ) (o : Option (Stopped ℕ)) →
      ((stop : Stop) (c : Config) (k : ℕ) → follow about dealing (xs ++ ys) stop c k ≡ from_stop (follow about dealing ys) (follow about dealing xs stop c k)) →
      (if b then from_stop (follow about dealing (xs ++ ys)) o else None)
      ≡ from_stop (follow about dealing ys) (if b then from_stop (follow about dealing xs) o else None)
  goes_if true xs ys None more = refl
  goes_if true xs ys (Some at) more = more at.stop at.config at.dealer
  goes_if false xs ys o more = refl

  pub follow_append : (xs ys : List ℕ) (stop : Stop) (c : Config) (k : ℕ) →
      follow about dealing (xs ++ ys) stop c k ≡ from_stop (follow about dealing ys) (follow about dealing xs stop c k)
  follow_append [] ys stop c k = refl
  follow_append (x ∷ xs) ys is_done c k = refl
  follow_append (x ∷ xs) ys is_limit c k = refl
  follow_append (x ∷ xs) ys (decide seat site) c k =
      goes_if (nat_lt x (length (menu_at about site c.table c.control))) xs ys (stop_behind about dealing (choose about dealing k x c)) (follow_append xs ys)

  pub from_append : (xs ys : List ℕ) (o : Option (Stopped ℕ)) →
      from_stop (follow about dealing (xs ++ ys)) o ≡ from_stop (follow about dealing ys) (from_stop (follow about dealing xs) o)
  from_append xs ys None = refl
  from_append xs ys (Some at) = follow_append xs ys at.stop at.config at.dealer

  pub reached_append : (xs ys : List ℕ) (k : ℕ) → reached about dealing (xs ++ ys) k ≡ from_stop (follow about dealing ys) (reached about dealing xs k)
  reached_append xs ys k = from_append xs ys (stop_of about dealing k (start about))

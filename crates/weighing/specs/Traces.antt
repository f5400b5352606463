-- What scales show over a whole series of samples. In the definitions samples, weights and readings stand newest first.
use Rattle.std.specs.Prelude.{◌≡◌, cond, List, [], ◌∷◌, map, reverse, take, ℤ, Ok, Err, Result}
use Rattle.weight.specs.declared.fault.Fault.{Fault}
use Rattle.weight.specs.declared.fault.Fault.TheVariants.{OutOfRange}
use Rattle.scale.specs.declared.reading.Reading.{Reading}
use Rattle.scale.specs.declared.reading.Sample.{Sample}
use Rattle.scale.specs.declared.settings.Settings.{Settings}
use Rattle.scale.specs.Conversion.{converted, settings_in_range}
use Rattle.scale.specs.Kinds.{unsampled, head_shows, settled_over, converter_shows, mean_over, smoothing_shows}

-- samples handed to a scale one after another: what it showed after each, and what became of it
pub data Trace {S : Type 0} (shows : S → Reading) (takes : S → Sample → S → Type 0) (from : S) : List Sample → List Reading → S → Type 0 where
  start : Trace shows takes from [] [] from
  next : (xs : List Sample) (rs : List Reading) (s : S) (x : Sample) (t : S) → Trace shows takes from xs rs s → takes s x t → Trace shows takes from (x ∷ xs) (shows t ∷ rs) t

-- samples, oldest first, were handed to the scale `from`, and left it as `to`
abbrev pub Weighed : {S : Type 0} → (S → Reading) → (S → Sample → S → Type 0) → S → List Sample → S → Type 0
Weighed shows takes from xs to = (rs : List Reading) × Trace shows takes from (reverse xs) rs to

-- what a scale shows after samples, oldest first
pub record Shown {S : Type 0} (shows : S → Reading) (takes : S → Sample → S → Type 0) (from : S) (xs : List Sample) (r : Reading) : Type 0 where
  pub readings : List Reading
  pub left : S
  pub trace : Trace shows takes from (reverse xs) readings left
  pub last : r ≡ shows left

-- what is shown after the last of the samples
abbrev pub latest : List Reading → Reading
latest [] = unsampled
latest (r ∷ rs) = r

-- a head shows each sample as it comes
abbrev pub head_trace : List Sample → List Reading
head_trace xs = map head_shows xs

-- the gross weights that a converter makes of samples
abbrev pub weights_of : Settings → List Sample → List ℤ
weights_of s xs = map (λ x. converted s x.value) xs

-- a converter shows the newest weight, and whether the last eight have settled
abbrev pub converter_trace : Settings → List Sample → List Reading
converter_trace s [] = []
converter_trace s (x ∷ xs) = converter_shows s (take settled_over (weights_of s (x ∷ xs))) ∷ converter_trace s xs

-- a smoothing layer shows the mean of the last four gross weights below it, and is stable when the scale below is
abbrev pub smoothed_trace : List Reading → List Reading
smoothed_trace [] = []
smoothed_trace (r ∷ rs) = smoothing_shows (take mean_over (map (λ q. q.gross) (r ∷ rs))) r ∷ smoothed_trace rs

-- what a layer shows after samples, oldest first: whatever the scale below showed of them, smoothed
pub record Smoothed {S : Type 0} (shows : S → Reading) (takes : S → Sample → S → Type 0) (below : S) (xs : List Sample) (r : Reading) : Type 0 where
  pub readings : List Reading
  pub left : S
  pub trace : Trace shows takes below (reverse xs) readings left
  pub mean : r ≡ latest (smoothed_trace readings)

-- where a new converter is needed: the readings that it leads to, or the refusal of its settings
abbrev pub converter_answer : Settings → List Reading → Result Reading Fault
converter_answer s rs = cond (settings_in_range s) (Ok (latest rs)) (Err OutOfRange)

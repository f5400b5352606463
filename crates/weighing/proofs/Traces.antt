-- The traces of the kinds of scale.
use Rattle.std.proofs.Common.{◌≡◌, ℕ, suc, ◌+◌, ◌<◌, List, [], ◌∷◌, map, reverse, length, get_or, take, ℤ, refl, ap, ◌∙◌, subst, arith}
use Rattle.std.proofs.lemmas.List.{take_more, take-take, reverse-append}
use Rattle.scale.specs.declared.head.Head.{Head}
use Rattle.scale.specs.declared.reading.Reading.{Reading}
use Rattle.scale.specs.declared.reading.Sample.{Sample}
use Rattle.scale.specs.declared.settings.Settings.{Settings}
use Rattle.scale.specs.Conversion.{converted}
use Rattle.scale.specs.Kinds.{unsampled, newest, head_shows, settled_over, converter_shows, ConverterTakes, mean_over, smoothing_shows, SmoothingTakes}
use Rattle.weighing.specs.Traces.{Trace, start, next, Shown, latest, head_trace, weights_of, converter_trace, smoothed_trace}

-- one sample more, read newest first
pub reverse_more : {X : Type 0} (xs : List X) (i : ℕ) (d : X) → i < length xs → reverse (take (i + 1) xs) ≡ get_or xs i d ∷ reverse (take i xs)
reverse_more xs i d h = ap reverse (take_more xs i d h) ∙ reverse-append (take i xs) (get_or xs i d ∷ [])

-- what holds of a scale at the start of a trace, and stays so with each sample, holds at its end
over : {S : Type 0} (shows : S → Reading) (takes : S → Sample → S → Type 0) (from : S) (P : List Sample → List Reading → S → Type 0)
    → P [] [] from
    → ((xs : List Sample) (rs : List Reading) (s : S) (x : Sample) (t : S) → P xs rs s → takes s x t → P (x ∷ xs) (shows t ∷ rs) t)
    → {xs : List Sample} {rs : List Reading} {t : S} → Trace shows takes from xs rs t → P xs rs t
over shows takes from P first step start = first
over shows takes from P first step (next xs rs s x t c h) = step xs rs s x t (over shows takes from P first step c) h

-- a scale that showed nothing at the start shows the latest of its readings
pub shows_latest : {S : Type 0} (shows : S → Reading) (takes : S → Sample → S → Type 0) (from : S) → shows from ≡ unsampled
    → {xs : List Sample} {rs : List Reading} {t : S} → Trace shows takes from xs rs t → shows t ≡ latest rs
shows_latest shows takes from none = over shows takes from (λ xs rs t. shows t ≡ latest rs) none (λ xs rs s x t p h. refl)

-- a window that has the newest of some weights has the newest with the next one too
take_newest : (k : ℕ) (w : ℤ) (ws : List ℤ) → newest (suc k) w (take (suc k) ws) ≡ take (suc k) (w ∷ ws)
take_newest k w ws = ap (λ vs. w ∷ vs) (take-take k (suc k) ws (omega arith))

-- a head shows each sample
pub head_trace_lem : {S : Type 0} (shows : S → Reading) (takes : S → Sample → S → Type 0) (from : S)
    → ((s : S) (x : Sample) (t : S) → takes s x t → shows t ≡ head_shows x)
    → {xs : List Sample} {rs : List Reading} {t : S} → Trace shows takes from xs rs t → rs ≡ head_trace xs
head_trace_lem shows takes from rule =
    over shows takes from (λ xs rs t. rs ≡ head_trace xs) refl (λ xs rs s x t p h. ap (λ r. r ∷ rs) (rule s x t h) ∙ ap (λ qs. head_shows x ∷ qs) p)

-- what a converter keeps and has shown
pub record Converted (s : Settings) (xs : List Sample) (rs : List Reading) (set : Settings) (ws : List ℤ) : Type 0 where
  pub settings : set ≡ s
  pub weights : ws ≡ take settled_over (weights_of s xs)
  pub shown : rs ≡ converter_trace s xs

converted_next : (s : Settings) (xs : List Sample) (rs : List Reading) (set : Settings) (ws : List ℤ) (x : Sample) (set' : Settings) (ws' : List ℤ)
    → Converted s xs rs set ws → ConverterTakes set ws x set' ws' → Converted s (x ∷ xs) (converter_shows set' ws' ∷ rs) set' ws'
converted_next s xs rs set ws x set' ws' p h =
    let e : set' ≡ s = h.settings ∙ p.settings in
    let w : ws' ≡ take settled_over (weights_of s (x ∷ xs)) =
    h.weights ∙ ap (λ q. newest settled_over (converted q x.value) ws) p.settings ∙ ap (λ vs. newest settled_over (converted s x.value) vs) p.weights
    ∙ take_newest 7 (converted s x.value) (weights_of s xs) in
    record {
      settings = e;
      weights = w;
      shown = ap (λ q. converter_shows q ws' ∷ rs) e ∙ ap (λ vs. converter_shows s vs ∷ rs) w
          ∙ ap (λ qs. converter_shows s (take settled_over (weights_of s (x ∷ xs))) ∷ qs) p.shown;
    }

-- of any scale that shows and takes by a converter's rule
pub converter_trace_lem : {S : Type 0} (set : S → Settings) (window : S → List ℤ) (from : S) → window from ≡ []
    → {xs : List Sample} {rs : List Reading} {t : S}
    → Trace (λ c. converter_shows (set c) (window c)) (λ c x d. ConverterTakes (set c) (window c) x (set d) (window d)) from xs rs t
    → Converted (set from) xs rs (set t) (window t)
converter_trace_lem set window from none =
    over (λ c. converter_shows (set c) (window c)) (λ c x d. ConverterTakes (set c) (window c) x (set d) (window d)) from
    (λ xs rs t. Converted (set from) xs rs (set t) (window t)) (record { settings = refl; weights = none; shown = refl })
    (λ xs rs c x d p h. converted_next (set from) xs rs (set c) (window c) x (set d) (window d) p h)

-- what the scale below a smoothing layer showed, and what the layer made of that
pub record Layered {S : Type 0} (shows : S → Reading) (takes : S → Sample → S → Type 0) (below : S) (xs : List Sample) (qs : List Reading) (end : S) (ws : List ℤ) : Type 0 where
  pub readings : List Reading
  pub trace : Trace shows takes below xs readings end
  pub weights : ws ≡ take mean_over (map (λ q. q.gross) readings)
  pub shown : qs ≡ smoothed_trace readings

layer_from : {S L : Type 0} (shows : S → Reading) (takes : S → Sample → S → Type 0) (below : L → S) (window : L → List ℤ) (from : L) → window from ≡ []
    → {xs : List Sample} {qs : List Reading} {t : L}
    → Trace (λ l. smoothing_shows (window l) (shows (below l))) (λ l x m. takes (below l) x (below m) × SmoothingTakes (window l) (shows (below m)) (window m)) from xs qs t
    → Layered shows takes (below from) xs qs (below t) (window t)
layer_from shows takes below window from none =
    over (λ l. smoothing_shows (window l) (shows (below l))) (λ l x m. takes (below l) x (below m) × SmoothingTakes (window l) (shows (below m)) (window m)) from
    (λ xs qs t. Layered shows takes (below from) xs qs (below t) (window t))
    (record { readings = []; trace = start; weights = none; shown = refl })
    (λ xs qs l x m p h.
    let r = shows (below m) in
    let rs = p.readings in
    let w : window m ≡ take mean_over (map (λ q. q.gross) (r ∷ rs)) =
    h.1 ∙ ap (λ vs. newest mean_over r.gross vs) p.weights ∙ take_newest 3 r.gross (map (λ q. q.gross) rs) in
    record {
      readings = r ∷ rs;
      trace = next xs rs (below l) x (below m) p.trace h.0;
      weights = w;
      shown = ap (λ vs. smoothing_shows vs r ∷ qs) w ∙ ap (λ ps. smoothing_shows (take mean_over (map (λ q. q.gross) (r ∷ rs))) r ∷ ps) p.shown;
    })

-- of any layer that shows and takes by the smoothing rule, over the scale s
pub layer_trace : {S L : Type 0} (shows : S → Reading) (takes : S → Sample → S → Type 0) (below : L → S) (window : L → List ℤ) (from : L) (s : S) → below from ≡ s → window from ≡ []
    → {xs : List Sample} {qs : List Reading} {t : L}
    → Trace (λ l. smoothing_shows (window l) (shows (below l))) (λ l x m. takes (below l) x (below m) × SmoothingTakes (window l) (shows (below m)) (window m)) from xs qs t
    → Layered shows takes s xs qs (below t) (window t)
layer_trace shows takes below window from s is none {xs} {qs} {t} c =
    subst (λ b. Layered shows takes b xs qs (below t) (window t)) is (layer_from shows takes below window from none c)

-- a new head shows the latest of what heads show
pub head_shown : (h : Head) (xs : List Sample) (r : Reading) → h.reading ≡ unsampled
    → Shown (λ (v : Head). v.reading) (λ (v : Head) (x : Sample) (w : Head). w.reading ≡ head_shows x) h xs r → r ≡ latest (head_trace (reverse xs))
head_shown h xs r none p =
    let k = p.trace in
    p.last ∙ shows_latest _ _ _ none k ∙ ap latest (head_trace_lem _ _ _ (λ s x t h. h) k)

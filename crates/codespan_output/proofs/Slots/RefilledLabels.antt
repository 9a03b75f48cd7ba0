-- For `messages_appear_once` and `reordering_changes_nothing`: labels with other messages.
-- `refilled` has a label whose message a function has changed.
use Rattle.codespan_core.proofs.Std.{◌≡◌, Bool, true, false, cond, ◌||◌, List, []}
use Rattle.codespan_core.proofs.Std.{◌∷◌, ◌++◌, map, filter, fold, Some, option_map, refl}
use Rattle.codespan_core.proofs.Std.{ap, list_any}
use Rattle.std.proofs.Common.{find}
use Rattle.codespan_core.specs.Streams.{Stream}
use Rattle.codespan_core.specs.Labels.{LabelModel, LaneMark, MultiLabel, Top, Left, Bottom}
use Rattle.codespan_output.specs.{Line}
use Rattle.codespan_output.specs.Rows.{Lanes}
use Rattle.codespan_output.proofs.Messages.Pass.{Around}

-- ---- lists

pub any-map : {X Y : Type 0} (p : Y → Bool) (f : X → Y) (xs : List X) → list_any p (map f xs)
    ≡ list_any (λ x. p (f x)) xs
any-map p f [] = refl
any-map p f (x ∷ xs) = ap (λ b. p (f x) || b) (any-map p f xs)

pub fold-map : {A X Y : Type 0} (g : A → Y → A) (f : X → Y) (a : A) (xs : List X)
    → fold g a (map f xs) ≡ fold (λ b x. g b (f x)) a xs
fold-map g f a [] = refl
fold-map g f a (x ∷ xs) = fold-map g f (g a (f x)) xs

pub filter-map : {X Y : Type 0} (p : Y → Bool) (f : X → Y) (xs : List X) → filter p (map f xs)
    ≡ map f (filter (λ x. p (f x)) xs)
filter-map p f [] = refl
filter-map p f (x ∷ xs) = by_test (filter-map p f xs) (p (f x))
  where
    by_test : filter p (map f xs) ≡ map f (filter (λ x. p (f x)) xs) → (b : Bool)
        → cond b (f x ∷ filter p (map f xs)) (filter p (map f xs))
        ≡ map f (cond b (x ∷ filter (λ x. p (f x)) xs) (filter (λ x. p (f x)) xs))
    by_test rest true = ap (λ ys. f x ∷ ys) rest
    by_test rest false = rest

pub find-map : {X Y : Type 0} (p : Y → Bool) (f : X → Y) (xs : List X)
    → find p (map f xs) ≡ option_map f (find (λ x. p (f x)) xs)
find-map p f [] = refl
find-map p f (x ∷ xs) = by_test (find-map p f xs) (p (f x))
  where
    by_test : find p (map f xs) ≡ option_map f (find (λ x. p (f x)) xs) → (b : Bool)
        → cond b (Some (f x)) (find p (map f xs))
        ≡ option_map f (cond b (Some x) (find (λ x. p (f x)) xs))
    by_test rest true = refl
    by_test rest false = rest

pub map-append' : {X Y : Type 0} (f : X → Y) (xs ys : List X) → map f (xs ++ ys) ≡ map f xs
    ++ map f ys
map-append' f [] ys = refl
map-append' f (x ∷ xs) ys = ap (λ zs. f x ∷ zs) (map-append' f xs ys)

-- ---- other messages

abbrev pub refilled_multi_label : (Stream → Stream) → MultiLabel → MultiLabel
refilled_multi_label φ (Top start) = Top start
refilled_multi_label φ Left = Left
refilled_multi_label φ (Bottom end message) = Bottom end (φ message)

abbrev pub refilled : (Stream → Stream) → LabelModel → LabelModel
refilled φ x = record x { message = φ x.message }

abbrev pub refilled_lane_mark : (Stream → Stream) → LaneMark → LaneMark
refilled_lane_mark φ m = record m { multi_label = refilled_multi_label φ m.multi_label }

abbrev pub refilled_lanes : (Stream → Stream) → Lanes → Lanes
refilled_lanes φ lanes = record lanes { lane_marks = map (refilled_lane_mark φ) lanes.lane_marks }

abbrev pub refilled_line : (Stream → Stream) → Line → Line
refilled_line φ line = record line
    { labels = map (refilled φ) line.labels; lanes = refilled_lanes φ line.lanes }

abbrev pub refilled_around : (Stream → Stream) → Around → Around
refilled_around φ a = record {
  before = map (refilled φ) a.before;
  here = refilled φ a.here;
  after =
      map (refilled φ) a.after;
}

-- For `padding_fits`: the numbers of drawn lines fit the padding.
use Rattle.codespan_core.proofs.Std.{◌≡◌, ℕ, zero, suc, ◌+◌, ◌-◌, ◌<◌}
use Rattle.codespan_core.proofs.Std.{◌≤◌, ◌/◌, ◌%◌, max, Bool, true, false, cond}
use Rattle.codespan_core.proofs.Std.{◌&&◌, ◌||◌, nat_lt, ◌⊎◌, inl, inr, ⊎_elim}
use Rattle.codespan_core.proofs.Std.{List, [], ◌∷◌, ◌++◌, map, filter, flat_map, length}
use Rattle.codespan_core.proofs.Std.{refl, sym, ap, subst, ◌∙◌, arith, Contains, fold}
use Rattle.codespan_core.proofs.Std.{◌==◌, if◌then◌else◌, range_with_len, list_any}
use Rattle.codespan_core.proofs.Std.{cases_lt, and_parts, false≢true, nat_tests, list_any_at}
use Rattle.std.specs.Fmt.{digits, digits_onto, digit_glyph}
use Rattle.codespan_core.specs.FileModel.{FileModel, line_count}
use Rattle.codespan_core.specs.Labels.{LabelModel, first_line, last_line}
use Rattle.codespan_core.specs.Lemmas.Lines.{line_of_below}
use Rattle.codespan_output.specs.Types.{Config, Layout, Classic, Unbroken}
use Rattle.codespan_output.specs.{is_unbroken, shows, is_shown, is_drawn, drawn_lines}
use Rattle.codespan_output.specs.{LabeledFileModel, spans, count_digits, numbered_lines, padding_of}
use Rattle.codespan_output.specs.{NumbersAscend, PaddingFits}
use Rattle.codespan_output.proofs.DrawnLines.Greatest.{greatest-low}
use Rattle.codespan_output.specs.Private.{digits_of, spanned_lines}

-- ---- a greater number has no fewer digits

more_digits : (k base : ℕ) (upper : Bool) (n : ℕ) (acc : List ℕ)
    → length acc ≤ length (digits_onto k base upper n acc)
more_digits zero base upper n acc = omega arith
more_digits (suc k) base upper n acc =
    by_test (more_digits k base upper (n / base) (digit_glyph upper (n % base) ∷ acc))
    (n / base == 0)
  where
    by_test : suc (length acc) ≤ length
        (digits_onto k base upper (n / base) (digit_glyph upper (n % base) ∷ acc))
        → (b : Bool)
        → length acc ≤ length
        (if b then digit_glyph upper (n % base) ∷ acc
        else digits_onto k base upper (n / base) (digit_glyph upper (n % base) ∷ acc))
    by_test h true = omega arith
    by_test h false = omega (arith, h)

digits_rise : (k : ℕ) (m n : ℕ) (a b : List ℕ) → m ≤ n → length a ≤ length b
    → length (digits_onto k 10 false m a) ≤ length (digits_onto k 10 false n b)
digits_rise zero m n a b h l = l
digits_rise (suc k) m n a b h l =
    by_tests (digits_rise k (m / 10) (n / 10) (x ∷ a) (y ∷ b) (omega arith) (omega arith))
    (more_digits k 10 false (n / 10) (y ∷ b)) (m / 10 == 0) refl (n / 10 == 0) refl
  where
    x : ℕ
    x = digit_glyph false (m % 10)

    y : ℕ
    y = digit_glyph false (n % 10)

    by_tests : length (digits_onto k 10 false (m / 10) (x ∷ a)) ≤ length
        (digits_onto k 10 false (n / 10) (y ∷ b))
        → suc (length b) ≤ length (digits_onto k 10 false (n / 10) (y ∷ b))
        → (v : Bool) → (m / 10 == 0) ≡ v → (w : Bool) → (n / 10 == 0) ≡ w
        → length (if v then x ∷ a else digits_onto k 10 false (m / 10) (x ∷ a)) ≤ length
        (if w then y ∷ b else digits_onto k 10 false (n / 10) (y ∷ b))
    by_tests later more true e true f = omega arith
    by_tests later more true e false f = omega (arith, more)
    by_tests later more false e false f = later
    by_tests later more false e true f = absurd (grind (arith, nat_tests))

pub count_digits-rises : (m n : ℕ) → m ≤ n → count_digits m ≤ count_digits n
unfolding digits
count_digits-rises m n h = digits_rise 64 m n [] [] h (omega arith)

-- ---- elements

there : {X : Type 0} (x y : X) (xs : List X) → Contains xs x → Contains (y ∷ xs) x
there x y xs c = (suc c.0, omega (arith, c.1), c.2)

contains-append_right : {X : Type 0} (x : X) (xs ys : List X) → Contains ys x
    → Contains (xs ++ ys) x
contains-append_right x [] ys c = c
contains-append_right x (y ∷ xs) ys c = there x y (xs ++ ys) (contains-append_right x xs ys c)

contains-append_left : {X : Type 0} (x : X) (xs ys : List X) → Contains xs x
    → Contains (xs ++ ys) x
contains-append_left x [] ys (k, low, same) = absurd (omega arith)
contains-append_left x (y ∷ xs) ys (zero, low, same) = (zero, omega arith, same)
contains-append_left x (y ∷ xs) ys (suc k, low, same) =
    there x y (xs ++ ys) (contains-append_left x xs ys (k, omega arith, same))

contains-map : {X Y : Type 0} (f : X → Y) (x : X) (xs : List X) → Contains xs x
    → Contains (map f xs) (f x)
contains-map f x [] (k, low, same) = absurd (omega arith)
contains-map f x (y ∷ xs) (zero, low, same) = (zero, omega arith, ap f same)
contains-map f x (y ∷ xs) (suc k, low, same) =
    there (f x) (f y) (map f xs) (contains-map f x xs (k, omega arith, same))

contains-flat_map : {X Y : Type 0} (f : X → List Y) (x : X) (y : Y) (xs : List X)
    → Contains xs x
    → Contains (f x) y → Contains (flat_map f xs) y
contains-flat_map f x y [] (k, low, same) c = absurd (omega arith)
contains-flat_map f x y (z ∷ xs) (zero, low, same) c =
    contains-append_left y (f z) (flat_map f xs) (rw same c)
contains-flat_map f x y (z ∷ xs) (suc k, low, same) c =
    contains-append_right y (f z) (flat_map f xs)
    (contains-flat_map f x y xs (k, omega arith, same) c)

pub contains-filter : {X : Type 0} (p : X → Bool) (x : X) (xs : List X) → p x ≡ true
    → Contains xs x
    → Contains (filter p xs) x
contains-filter p x [] e (k, low, same) = absurd (omega arith)
contains-filter p x (y ∷ xs) e (zero, low, same) = rw (ap p same ∙ e) (zero, omega arith, same)
contains-filter p x (y ∷ xs) e (suc k, low, same) =
    by_test (contains-filter p x xs e (k, omega arith, same)) (p y)
  where
    by_test : Contains (filter p xs) x → (b : Bool)
        → Contains (cond b (y ∷ filter p xs) (filter p xs)) x
    by_test c true = there x y (filter p xs) c
    by_test c false = c

pub contains-range : (a n l : ℕ) → a ≤ l → l < a + n → Contains (range_with_len a n) l
contains-range a zero l h k = absurd (omega arith)
contains-range a (suc n) l h k =
    ⊎_elim (λ p. there l a _ (contains-range (a + 1) n l (omega arith) (omega arith)))
    (λ p. (zero, omega arith, omega arith)) (cases_lt a l)

-- an element of a filtered range passes the test and is in the range
filtered : (p : ℕ → Bool) (a n l : ℕ) → Contains (filter p (range_with_len a n)) l
    → (p l ≡ true) × (l < a + n)
filtered p a zero l (k, low, same) = absurd (omega arith)
filtered p a (suc n) l c = by_test (λ d. filtered p (a + 1) n l d) (p a) refl c
  where
    rest : List ℕ
    rest = filter p (range_with_len (a + 1) n)

    by_test : (Contains rest l → (p l ≡ true) × (l < (a + 1) + n)) → (b : Bool) → p a ≡ b
        → Contains (cond b (a ∷ rest) rest) l → (p l ≡ true) × (l < a + suc n)
    by_test again true e (zero, low, same) = (ap p (sym same) ∙ e, omega arith)
    by_test again true e (suc k, low, same) = let r = again (k, omega arith, same) in
        (r.0, omega (arith, r.1))
    by_test again false e d = let r = again d in (r.0, omega (arith, r.1))

contained-le : (a x : ℕ) (xs : List ℕ) → Contains xs x → x ≤ fold max a xs
contained-le a x [] (k, low, same) = absurd (omega arith)
contained-le a x (y ∷ xs) (zero, low, same) = omega (arith, greatest-low (max a y) xs, same)
contained-le a x (y ∷ xs) (suc k, low, same) = contained-le (max a y) x xs (k, omega arith, same)

-- the number of a numbered line fits the padding
pub numbered-fits : (config : Config) (ss : List LabeledFileModel) (s : LabeledFileModel) (l : ℕ)
    → Contains ss s → Contains (numbered_lines config s) l
    → count_digits (s.file.line_number l) ≤ padding_of config ss
numbered-fits config ss s l here c =
    contained-le 0 (count_digits (s.file.line_number l)) _
    (contains-flat_map (λ (s : LabeledFileModel). digits_of s (numbered_lines config s)) s
    (count_digits (s.file.line_number l)) ss here
    (contains-map (λ l. count_digits (s.file.line_number l)) l (numbered_lines config s) c))

-- ---- drawn lines and spanned ones

ascends-by : (f : FileModel) → NumbersAscend f → (i d : ℕ) → i + d < line_count f
    → f.line_number i ≤ f.line_number (i + d)
ascends-by f up i zero h = let e : i + zero ≡ i = omega arith in rw e (omega arith)
ascends-by f up i (suc d) h =
    let e : i + suc d ≡ (i + d) + 1 = omega arith in
    rw e (omega (arith, ascends-by f up i d (omega arith), up (i + d) (omega arith)))

ascends : (f : FileModel) → NumbersAscend f → (i j : ℕ) → i ≤ j → j < line_count f
    → f.line_number i ≤ f.line_number j
ascends f up i j h low =
    let e : j ≡ i + (j - i) = omega arith in
    rw e (ascends-by f up i (j - i) (omega arith))

-- a line that labels span, and so fits the padding: this one or a later one
abbrev Over : LabeledFileModel → ℕ → Type 0
Over s l = (m : ℕ) × (l ≤ m) × (m < line_count s.file) × Contains (spanned_lines s) m

-- where no lines are shown after labels, a label that shows a line spans this line or a later one
shown-over : (config : Config) (s e l : ℕ) → config.after_label_lines ≡ 0
    → shows config s e l ≡ true → (l ≤ s) ⊎ ((l ≡ e) ⊎ ((s ≤ l) × (l ≤ e)))
shown-over config s e l none h = grind (arith, nat_tests)

any-found : (p : LabelModel → Bool) (xs : List LabelModel) → list_any p xs ≡ true
    → (x : LabelModel) × Contains xs x × (p x ≡ true)
any-found p [] h = absurd (false≢true h)
any-found p (y ∷ ys) h = by_test (any-found p ys) (p y) refl h
  where
    by_test : (list_any p ys ≡ true → (x : LabelModel) × Contains ys x × (p x ≡ true))
        → (b : Bool)
        → p y ≡ b → (b || list_any p ys) ≡ true
        → (x : LabelModel) × Contains (y ∷ ys) x × (p x ≡ true)
    by_test again true e k = (y, (zero, omega arith, refl), e)
    by_test again false e k = let r = again k in (r.0, there r.0 y ys r.1, r.2)

spanned-over : (s : LabeledFileModel) (x : LabelModel) (l m : ℕ) → Contains s.labels x
    → l ≤ m
    → m < line_count s.file → spans (first_line s.file x) (last_line s.file x) m ≡ true
    → Over s l
spanned-over s x l m has h low is = (
  m,
  h,
  low,
  contains-filter
      (λ l. list_any (λ x. spans (first_line s.file x) (last_line s.file x) l) s.labels)
      m
      (range_with_len 0 (line_count s.file))
      (list_any_at (λ x. spans (first_line s.file x) (last_line s.file x) m) s.labels has.0 x has.1
      (ap (λ y. spans (first_line s.file y) (last_line s.file y) m) has.2 ∙ is))
      (contains-range 0 (line_count s.file) m (omega arith) (omega arith)),
)

spans-first : (f e : ℕ) → spans f e f ≡ true
spans-first f e = grind (arith, nat_tests)

spans-last : (f e : ℕ) → spans f e e ≡ true
spans-last f e = grind (arith, nat_tests)

spans-inside : (f e l : ℕ) → f ≤ l → l ≤ e → spans f e l ≡ true
spans-inside f e l h k = grind (arith, nat_tests)

over-shown : (config : Config) (s : LabeledFileModel) (l : ℕ) → config.after_label_lines ≡ 0
    → is_shown config s.file s.labels l ≡ true → Over s l
over-shown config s l none h =
    let parts = and_parts (nat_lt l (line_count s.file))
    (list_any (λ x. shows config (first_line s.file x) (last_line s.file x) l) s.labels) h in
    let test = parts.0 in
    let low : l < line_count s.file = grind (arith, nat_tests) in
    let some : 0 < line_count s.file = omega arith in
    let found = any-found (λ x. shows config (first_line s.file x) (last_line s.file x) l) s.labels
    parts.1 in
    let x : LabelModel = found.0 in
    let first : ℕ = first_line s.file x in
    let last : ℕ = last_line s.file x in
    elim (shown-over config first last l none found.2) [
      | inl p ↦ spanned-over s x l first found.1 p (line_of_below s.file.starts x.start some)
          (spans-first first last)
      | inr q ↦ elim q [
        | inl p ↦ spanned-over s x l last found.1 (omega arith)
            (line_of_below s.file.starts x.end some) (spans-last first last)
        | inr p ↦ spanned-over s x l l found.1 (omega arith) low
            (spans-inside first last l p.0 p.1)
      ]
    ]

-- a drawn line is shown, or the line after it is
drawn-shown : (config : Config) (f : FileModel) (labels : List LabelModel) (l : ℕ)
    → is_drawn config f labels l ≡ true
    → (is_shown config f labels l ≡ true) ⊎ (is_shown config f labels (l + 1) ≡ true)
drawn-shown config f labels l h =
    by_test (is_shown config f labels l) (nat_lt 0 l) (is_shown config f labels (l - 1))
    (is_shown config f labels (l + 1)) h
  where
    by_test : (a b c d : Bool) → (a || (b && c && d)) ≡ true → (a ≡ true) ⊎ (d ≡ true)
    by_test true b c d h = inl refl
    by_test false true true d h = inr h
    by_test false true false d h = absurd (false≢true h)
    by_test false false c d h = absurd (false≢true h)

over-drawn : (config : Config) (s : LabeledFileModel) (l : ℕ) → config.after_label_lines ≡ 0
    → is_drawn config s.file s.labels l ≡ true → Over s l
over-drawn config s l none h =
    elim (drawn-shown config s.file s.labels l h) [
      | inl p ↦ over-shown config s l none p
      | inr p ↦ let o = over-shown config s (l + 1) none p in (o.0, omega (arith, o.1), o.2, o.3)
    ]

pub padding_fits : (config : Config) (ss : List LabeledFileModel) → PaddingFits config ss
padding_fits config ss given s l here c = by_layout config.layout refl
  where
    numbered : (v : Layout) → config.layout ≡ v
        → numbered_lines config s ≡ numbered_lines (record config { layout = v }) s
    numbered v e = ap (λ v. numbered_lines (record config { layout = v }) s) e

    by_layout : (v : Layout) → config.layout ≡ v
        → count_digits (s.file.line_number l) ≤ padding_of config ss
    by_layout Unbroken e =
        let same : numbered_lines config s
        ≡ drawn_lines config s.file s.labels = numbered Unbroken
        e in
        numbered-fits config ss s l here (subst (λ ls. Contains ls l) (sym same) c)
    by_layout Classic e =
        let same : numbered_lines config s ≡ spanned_lines s = numbered Classic e in
        let broken : is_unbroken config.layout ≡ false = ap is_unbroken e in
        let g = given broken in
        let drawn = filtered (is_drawn config s.file s.labels) 0 (line_count s.file) l c in
        let o = over-drawn config s l g.0 drawn.0 in
        let fits : count_digits (s.file.line_number o.0) ≤ padding_of config ss =
        numbered-fits config ss s o.0 here (subst (λ ls. Contains ls o.0) (sym same) o.3) in
        let rise : s.file.line_number l ≤ s.file.line_number o.0 =
        ascends s.file (g.1 s here) l o.0 o.1 o.2 in
        omega (arith, fits, count_digits-rises (s.file.line_number l) (s.file.line_number o.0) rise)

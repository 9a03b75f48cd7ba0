-- What many proofs take of std: the words of its definitions, and its lemmas.
pub use Rattle.std.proofs.Common.{Bool, Bor, Err, IfOk, IsErrOf, List, None, Ok, OnOk, Option}
pub use Rattle.std.proofs.Common.{Result, Some, [], add-one, add-zero, ap, append-nil, append_assoc}
pub use Rattle.std.proofs.Common.{ap₂, arith, bytes_eq, codes, cond, decimal, drop, drop-cons}
pub use Rattle.std.proofs.Common.{encode_utf8_all, eqb, false, filter, filter_map, flat_map, fold}
pub use Rattle.std.proofs.Common.{get_or, inl, inr, is_some, leb, length, length-append}
pub use Rattle.std.proofs.Common.{length-drop, lit<, lt-ltb, ltb, map, max, min, nat_le, nat_lt}
pub use Rattle.std.proofs.Common.{not, refl, replicate, reverse, rules, set, slice_get, subst, suc}
pub use Rattle.std.proofs.Common.{sym, take, tests, true, true≢false, zero, zero-add, ℕ}
pub use Rattle.std.proofs.Common.{⊎_elim, ◌%◌, ◌&&◌, ◌*◌, ◌++◌, ◌+◌, ◌-◌}
pub use Rattle.std.proofs.Common.{◌/◌, ◌<◌, ◌==◌, ◌^◌, ◌||◌, ◌∙◌}
pub use Rattle.std.proofs.Common.{◌∷◌, ◌≡◌, ◌≢◌, ◌≤◌, ◌⊎◌}
pub use Rattle.std.specs.Prelude.{All, Contains, IfErr, IfSome, IsTrue, count_by}
pub use Rattle.std.specs.Prelude.{if◌then◌else◌, slice_range, string_bytes, sum_by, unwrap_or}
pub use Rattle.std.specs.List.{AllByRecursion, AllZip, cons_option, enumerate_from, list_any}
pub use Rattle.std.specs.List.{position_or_len, prefix_len, range_with_len, remove, repeat}
pub use Rattle.std.specs.List.{slice_split}
pub use Rattle.std.specs.List.Sorted.{IsPermutation, IsSortedBy, IsSortedWithin}
pub use Rattle.std.specs.Option.{option_map, option_map_or}
pub use Rattle.std.specs.Cmp.{IsEquivalence, IsStrictWeakOrder}
pub use Rattle.std.specs.Ordering.{is_lt, nat_cmp, ordering_then}
unfoldable pub use Rattle.std.specs.Char.{encode_utf8}
pub use Rattle.std.specs.Char.{IsScalar, len_utf8}
pub use Rattle.std.specs.Str.{IsCharBoundary, IsUtf8, chars}
pub use Rattle.std.proofs.lemmas.Grind.{common_steps, flat_map-append}
pub use Rattle.std.proofs.lemmas.Bool.{and_parts, cases_Bool, cases_eq, cases_lt, cond_both, eq-eqb}
pub use Rattle.std.proofs.lemmas.Bool.{eqb-true, false≢true, le-leb, le-ltb, lt-leb, ltb-false}
pub use Rattle.std.proofs.lemmas.Bool.{ltb-true, ne_eqb, or_cases}
pub use Rattle.std.proofs.lemmas.Bool.Decides.{nat_tests}
pub use Rattle.std.proofs.lemmas.List.{drop-drop, drop-map, drop_all, drop_more, get_or-drop}
pub use Rattle.std.proofs.lemmas.List.{get_or-map, get_or_default, length-map, length-take-le}
pub use Rattle.std.proofs.lemmas.List.{map-append, map-id, nil_from_length, reverse-append}
pub use Rattle.std.proofs.lemmas.List.{take-append-drop, take-map, take_all, take_more, take_rest}
pub use Rattle.std.proofs.lemmas.List.Elements.{All-from_recursion, filter-append}
pub use Rattle.std.proofs.lemmas.List.Elements.{filter_map-append, recursion_from_All}
pub use Rattle.std.proofs.lemmas.List.Folds.{flat_map-map, list_any-append, list_any_at}
pub use Rattle.std.proofs.lemmas.List.Sorted.{All-permutation, IsPermutation-cons}
pub use Rattle.std.proofs.lemmas.List.Sorted.{IsPermutation-map, IsPermutation-refl}
pub use Rattle.std.proofs.lemmas.List.Sorted.{IsPermutation-sym, IsPermutation-trans, ranks_by}
pub use Rattle.std.proofs.lemmas.List.Sorted.{sorted_far, sum_by-IsPermutation}
pub use Rattle.std.proofs.lemmas.List.Sums.{count_by-le-length, fold-append, sum_by-append}
pub use Rattle.std.proofs.lemmas.List.Sums.{sum_by-cons}
pub use Rattle.std.proofs.lemmas.Option.{slice_get-map}
pub use Rattle.std.proofs.lemmas.Result.{IfOk-weaker, err_from_is_err_and}
pub use Rattle.std.proofs.lemmas.Str.{IsUtf8-had, IsUtf8-nil, len_utf8_bounds, length-encode}
pub use Rattle.std.proofs.Math.Seq.{take-append_seam, take-length}

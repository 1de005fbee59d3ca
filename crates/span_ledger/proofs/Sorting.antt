-- What a sort of distinct rows gives.
pub use Rattle.span_keyed_tracks.proofs.Sorting.{IsSorted-from_sort_by, ascending-permutation, sorted-ascending}

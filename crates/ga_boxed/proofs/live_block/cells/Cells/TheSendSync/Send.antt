pub use Rattle.ga_boxed.proofs.walks.Crosses.{Cells-send as send}

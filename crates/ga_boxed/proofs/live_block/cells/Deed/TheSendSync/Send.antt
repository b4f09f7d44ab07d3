pub use Rattle.ga_boxed.proofs.walks.Crosses.{Deed-send as send}

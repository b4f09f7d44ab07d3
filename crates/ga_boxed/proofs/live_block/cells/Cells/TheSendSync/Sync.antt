pub use Rattle.ga_boxed.proofs.walks.Crosses.{Cells-sync as sync}

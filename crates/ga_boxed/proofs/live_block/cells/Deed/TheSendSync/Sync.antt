pub use Rattle.ga_boxed.proofs.walks.Crosses.{Deed-sync as sync}

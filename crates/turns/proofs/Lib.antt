-- the lemmas on aims, which turns go by
pub use Rattle.moves.proofs.Aims

mod Coprimality
mod RoundedWords
mod Splits
mod PhaseRows
mod ScaledPhase
mod Decrypted

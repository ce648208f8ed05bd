pub mod CipherWords

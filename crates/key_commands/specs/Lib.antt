pub mod Encrypted
pub mod Decrypted
pub mod SwitchKeys
